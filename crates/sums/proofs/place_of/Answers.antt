use borrow.Author.Rules.{rules}
use mathlib.Core.Path.{◌≡◌, ap, ◌∙◌}
use Prim.Native.Nat.{suc, ◌+◌, ◌-◌}
use native.Mathlib.Nat.{zero-add, sub-zero}
use native.Mathlib.Omega.{arith}
use Rattle.sums.specs.Sums.{place_of, sums_from}
use Rattle.sums.proofs.Sums.{stops, goes_on_lem, none}
use Rattle.sums.proofs.place_of.Goals as goal

pub loop-at-init : goal.loop-at-init
loop-at-init c = (search rules, simp (zero-add, sub-zero))

pub returns-then-code-sheet : goal.returns-then-code-sheet
returns-then-code-sheet c =
    let at-loop = c in
    let at = at-loop.loop-at.at in
    let a = at-loop.args in
    let left : a.count - at ≡ suc (a.count - at - 1) = omega arith in
    let here = ap (λ m. place_of a.code (sums_from m at a.sheet.now)) left ∙ stops a.code _ at a.sheet.now c.if-code-sheet.true in
    (omega (arith, at-loop.loop-at.invariant.1), search rules)

pub loop-at-preserved : goal.loop-at-preserved
loop-at-preserved c =
    let at-loop = c in
    let at = at-loop.loop-at.at in
    let a = at-loop.args in
    let left : a.count - at ≡ suc (a.count - (at + 1)) = omega arith in
    let here = ap (λ m. place_of a.code (sums_from m at a.sheet.now)) left ∙ goes_on_lem a.code _ at a.sheet.now c.if-code-sheet.false in
    (search rules, omega (arith, at-loop.loop-at.invariant.1))

pub returns : goal.returns
returns c =
    let at-loop = c in
    let at = at-loop.loop-at.at in
    let a = at-loop.args in
    let left : a.count - at ≡ 0 = omega arith in
    let here = ap (λ m. place_of a.code (sums_from m at a.sheet.now)) left ∙ none a.code at a.sheet.now in
    (omega (arith, at-loop.loop-at.invariant.1), search rules)
