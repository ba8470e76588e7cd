use borrow.Author.Rules.{rules}
use mathlib.Core.Path.{◌≡◌, sym, ap, ◌∙◌}
use Prim.Native.Nat.{ℕ, ◌+◌, ◌*◌, ◌-◌, ◌≤◌}
use native.Mathlib.Numerals.{add-one}
use native.Mathlib.Omega.{arith}
use Rattle.shape.specs.Shape.{entries_end}
use Rattle.early_tails.proofs.entries_end.Goals as goal

pub loop-init : goal.loop-init
unfolding entries_end
loop-init c = search rules

pub loop-preserved : goal.loop-preserved
unfolding entries_end
loop-preserved c =
    let at-loop = c.loop in
    (rw (add-one at-loop.counter) (simp (c.byte_at.ensures, ← at-loop.invariant.0)), omega arith, omega arith)

pub returns : goal.returns
returns c =
    let a = c.args in
    let all : c.loop.counter ≡ a.entries = omega arith in
    c.loop.invariant.0 ∙ ap (entries_end a.body.now a.at) all
