use mathlib.Core.Path.{◌≡◌, sym, ap, ◌∙◌}
use Prim.Native.Nat.{ℕ, suc, ◌+◌, ◌-◌}
use native.Mathlib.Omega.{arith}
use Rattle.lexing.specs.Names.{names_on, name_at}
use Rattle.lexing.proofs.Named.{on-name, at-end}
use Rattle.lexing.proofs.name_at.Goals as goal

pub loop-init : goal.loop-init
unfolding name_at
loop-init c =
    let a = c.args in
    let all : a.n - 0 ≡ a.n = omega arith in
    rw (all, c.next_word-name.ensures)

pub returns-then-not-is_name : goal.returns-then-not-is_name
returns-then-not-is_name c =
    let none = sym c.is_name.ensures ∙ c.if-not-is_name.true in
    sym (c.loop.invariant ∙ at-end _ _ c.loop.name _ none)

pub loop-preserved : goal.loop-preserved
loop-preserved c =
    let a = c.args in
    let i = c.loop.counter in
    let name = c.loop.name in
    let is = sym c.is_name.ensures ∙ c.if-not-is_name.false in
    let one : a.n - i ≡ suc (a.n - (i + 1)) = omega arith in
    let table = a.table.now in
    let close = a.close.now in
    c.loop.invariant
    ∙ ap (λ (k : ℕ). names_on close k table name) one
    ∙ on-name close table name (a.n - (i + 1)) is
    ∙ ap (names_on close (a.n - (i + 1)) table) (sym c.after_word-name.ensures)

pub returns : goal.returns
unfolding names_on
returns c =
    let none : c.args.n - c.loop.counter ≡ 0 = omega arith in
    sym (rw none at c.loop.invariant)
