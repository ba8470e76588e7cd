-- Which fields writing takes, in document 01's words. Assumes nothing.
use mathlib.Core.Path.{◌≡◌, refl}
use mathlib.Core.Bool.{Bool, true, false, not, ◌&&◌}
use mathlib.Core.Logic.{◌↔◌}
use Prim.Native.Nat.{ℕ, ◌/◌, ◌%◌, ◌≤◌, ◌<◌}
use native.Mathlib.Omega.{arith}
use borrow.Author.Tests.{leb-true, le-leb, eqb-true, eqb-false, eq-eqb, ne_eqb, not-true}
use lib.Dec.{leb, eqb}
use Rattle.money.specs.Money.{max}
use Rattle.wire.proofs.Pairs.{both}
use Rattle.iad.specs.declared.Cvr.{Cvr}
use Rattle.iad.specs.declared.Iad.{Iad}
use Rattle.iad.specs.Iad.{is_cvr, is_profile, is_writable}
use Rattle.readback.specs.WellFormed.{Types, Profile, Writable}

pub profile-is : (n : ℕ) → (is_profile n ≡ true) ↔ Profile n
profile-is n = (
  λ e.
      let (least, most) = both (leb 1 n) (leb n 124) e in
      record { least = leb-true 1 n least; most = leb-true n 124 most },
  λ p. rw (le-leb 1 n p.least, le-leb n 124 p.most),
)

module _ (cvr : Cvr) where
  pub cvr_is : (is_cvr cvr ≡ true) ↔ (Types cvr.byte1 × (cvr.byte5 ≡ 0))
  unfolding is_cvr
  cvr_is = (
    λ e.
        let (types, fifth) = both _ (eqb cvr.byte5 0) e in
        let (second, first) = both (not (eqb (cvr.byte1 / 64) 3)) (not (eqb (cvr.byte1 / 16 % 4) 3)) types in
        let low : cvr.byte1 / 16 % 4 ≡ 3 → ⊥ = eqb-false (cvr.byte1 / 16 % 4) 3 (not-true _ first) in
        let high : cvr.byte1 / 64 ≡ 3 → ⊥ = eqb-false (cvr.byte1 / 64) 3 (not-true _ second) in
        (record { second = λ h k. high (omega arith); first = omega arith }, eqb-true cvr.byte5 0 fifth),
    λ (types, fifth).
        let low = types.first in
        rw (
          ne_eqb (cvr.byte1 / 64) 3 (λ e. types.second (omega arith) (omega arith)),
          ne_eqb (cvr.byte1 / 16 % 4) 3 (λ e. omega arith),
          eq-eqb cvr.byte5 0 fifth,
        ),
  )

-- writing takes just these fields
pub writable : (iad : Iad) → (is_writable iad ≡ true) ↔ Writable iad
unfolding is_writable
writable iad = (
  λ e.
      let (r, profile) = both _ (is_profile iad.profile) e in
      let (small, good) = both (leb iad.accumulator.0 max) (is_cvr iad.cvr) r in
      let (types, fifth) = (cvr_is iad.cvr).0 good in
      record { amount = leb-true iad.accumulator.0 max small; types = types; fifth = fifth; profile = (profile-is iad.profile).0 profile },
  λ w.
      rw (
        le-leb iad.accumulator.0 max w.amount,
        (cvr_is iad.cvr).1 (w.types, w.fifth),
        (profile-is iad.profile).1 w.profile,
      ),
)
