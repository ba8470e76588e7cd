use borrow.Author.Rules.{rules}
use borrow.Author.Tests.{le-leb, lt-leb, lt-ltb, le-ltb}
use mathlib.Core.Path.{◌≡◌, refl, ◌∙◌}
use Prim.Native.Nat.{ℕ}
use native.Mathlib.Omega.{arith}
use lib.Dec.{leb}
use lib.Ieee.{Float}
use Rattle.rate.specs.Rate.{digits_at, shift_at, has_digits, place, rate_of}
use Rattle.rate.proofs.Search.{passed, found, ended}
use Rattle.rate.proofs.Exactly.{placed}
use Rattle.rate.proofs.rate_of.Goals as goal

has : (rate : Float) (at shift digits : ℕ) → shift ≡ shift_at at → digits ≡ digits_at rate shift → has_digits rate at ≡ leb digits 9999
has rate at shift digits s d = rw (d, s)

pub loop-place-init : goal.loop-place-init
unfolding place
loop-place-init c = (search rules, refl)

pub digits_at-digits-requires : goal.digits_at-digits-requires
digits_at-digits-requires c = rw c.shift_at-shift.ensures (placed c.loop-place.place (omega arith)).bound

pub returns-then-digits-le-LAST : goal.returns-then-digits-le-LAST
unfolding rate_of
returns-then-digits-le-LAST c =
    let shift = c in
    let digits = c.digits_at-digits.ensures in
    let l = shift.loop-place in
    let some = has _ l.place _ _ shift.shift_at-shift.ensures digits ∙ le-leb _ _ c.if-digits-le-LAST.true in
    rw (l.invariant.1 ∙ found _ 13 l.place (omega arith) some) (simp (lt-ltb l.place 13 (omega arith), digits, shift.shift_at-shift.ensures))

pub loop-place-preserved : goal.loop-place-preserved
loop-place-preserved c =
    let shift = c in
    let l = shift.loop-place in
    let none = has _ l.place _ _ shift.shift_at-shift.ensures c.digits_at-digits.ensures ∙ lt-leb _ _ c.if-digits-le-LAST.false in
    (omega arith, l.invariant.1 ∙ passed _ 13 l.place (omega arith) none)

pub returns : goal.returns
unfolding rate_of
returns c =
    let l = c.loop-place in
    rw (l.invariant.1 ∙ ended _ 13 l.place (omega arith)) (simp (le-ltb l.place 13 (omega arith)))
