use borrow.Author.Rules.{rules}
use mathlib.Core.Path.{◌≡◌, refl, sym, ◌∙◌}
use native.Mathlib.Nat.{mul-le-mul}
use native.Mathlib.Omega.{arith}
use mir.Facts.{Fits-le, Fits-lit}
use Rattle.rate.specs.Rate.{digits_of}
use Rattle.rate.proofs.Search.{passed, found, ended}
use Rattle.rate.proofs.digits_of.Goals as goal

pub loop-digits-init : goal.loop-digits-init
unfolding digits_of
loop-digits-init c = (search rules, search rules, refl)

pub overflow_mul-digits : goal.overflow_mul-digits
overflow_mul-digits c = Fits-le (mul-le-mul c.loop-digits-test.true c.requires) (Fits-lit tt)

pub returns-then-digits-times : goal.returns-then-digits-times
returns-then-digits-times c =
    let l = c.loop-digits in
    sym (l.invariant.2 ∙ found _ 10000 l.digits (search rules) c.if-digits-times.true)

pub loop-digits-preserved : goal.loop-digits-preserved
loop-digits-preserved c =
    let l = c.loop-digits in
    (omega arith, omega arith, l.invariant.2 ∙ passed _ 10000 l.digits (search rules) c.if-digits-times.false)

pub returns : goal.returns
returns c =
    let l = c.loop-digits in
    let last : l.digits ≡ 10000 = omega arith in
    sym (l.invariant.2 ∙ ended _ 10000 l.digits (search rules) ∙ last)
