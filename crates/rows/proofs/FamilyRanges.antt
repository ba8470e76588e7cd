-- A spelled tail of version 05 is accepted exactly if its fields are in their ranges. Assumes nothing.
use mathlib.Core.Path.{◌≡◌, refl}
use mathlib.Core.Bool.{Bool, true, false}
use mathlib.Core.List.{List}
use mathlib.Core.Logic.{◌↔◌, inl, inr}
use Prim.Native.Nat.{ℕ, ◌+◌, ◌-◌, ◌≤◌, ◌<◌}
use native.Mathlib.Omega.{arith}
use borrow.Author.Tests.{ltb-true, ltb-false}
use lib.Dec.{ltb}
use lib.ListN.{length, get_or-eq_default}
use Rattle.wire.specs.Wire.{byte}
use Rattle.tails.specs.Tails.{is_family}
use Rattle.tails.proofs.Accepted.{FamilyRanges, FamilyAccepted, family-accepted, family_complete}
use Rattle.rows.specs.Rows.{Fits, spelled, Controls, Families, cpa, cpace, listed, controls_row, controls_bytes}
use Rattle.rows.specs.InRange.{ControlRange, CashbackRange, ControlsRange, FamiliesRange}
use Rattle.rows.specs.Tails.{FineFamilies}
use Rattle.rows.specs.Offsets.{ControlsOffsets}
use Rattle.rows.proofs.Places.{at_each, each_at}
use Rattle.rows.proofs.Family.{controls-size, controls_in_place}

module _ (f : Controls) (fits : Fits (controls_row f)) (few : length f.cashbacks ≤ 4) where
  abbrev tail : List ℕ
  tail = spelled (controls_row f)

  o : ControlsOffsets tail f
  o = controls_in_place f fits

  there : ControlsRange f → FamilyRanges tail
  there r = record { controls = λ i l. control i l (ltb i 4) refl; cashbacks = λ j l. cashback j (ltb j (length f.cashbacks)) refl } where
    control : (i : ℕ) → i < 8 → (b : Bool) → ltb i 4 ≡ b → byte tail (1 + i) ≤ 15
    control i l true e =
        let m = ltb-true i 4 e in
        rw (o.accumulators i m) (at_each f.accumulators.one ControlRange (listed f.accumulators) r.accumulators i m)
    control i l false e =
        let past = ltb-false i 4 e in
        let m : i - 4 < 4 = omega arith in
        let there : 1 + i ≡ 5 + (i - 4) = omega arith in
        rw (there, o.counters (i - 4) m) (at_each f.counters.one ControlRange (listed f.counters) r.counters (i - 4) m)

    cashback : (j : ℕ) (b : Bool) → ltb j (length f.cashbacks) ≡ b → byte tail (9 + j) ≤ 1
    cashback j true e =
        let m = ltb-true j (length f.cashbacks) e in
        rw (o.cashbacks j m 0) (at_each 0 CashbackRange f.cashbacks r.cashbacks j m)
    cashback j false e =
        let past = ltb-false j (length f.cashbacks) e in
        let none : byte tail (9 + j) ≡ 0 = get_or-eq_default tail 0 (omega (arith, controls-size f)) in
        omega arith

  back : FamilyRanges tail → ControlsRange f
  back r =
      record {
        accumulators =
            each_at f.accumulators.one ControlRange (listed f.accumulators) (λ i l. rw (o.accumulators i l) at (r.controls i (omega arith)));
        counters =
            each_at f.counters.one ControlRange (listed f.counters)
            (λ i l.
            let there : 1 + (4 + i) ≡ 5 + i = omega arith in
            rw (there, o.counters i l) at (r.controls (4 + i) (omega arith)));
        cashbacks = each_at 0 CashbackRange f.cashbacks (λ j l. rw (o.cashbacks j l 0) at (r.cashbacks j (omega arith)));
      }

  -- a CPACE card's tail has bytes
  some : FamilyAccepted tail → FamilyRanges tail
  some (inl none) = let size = controls-size f in absurd (omega arith)
  some (inr r) = r

-- THE STATEMENT: accepted exactly if every field is in its range
pub families_in_range : (p : ℕ) (f : Families) → FineFamilies p f → p ≤ 4 → (is_family (controls_bytes f) ≡ true) ↔ FamiliesRange f
families_in_range p cpa fine few = (λ e. tt, λ r. family_complete (controls_bytes cpa) (inl refl))
families_in_range p (cpace f) fine few =
    let checks = fine.1 in
    let most : length f.cashbacks ≤ 4 = omega arith in (
      λ e. back f fine.0 most (some f fine.0 most (family-accepted (controls_bytes (cpace f)) e)),
      λ r. family_complete (controls_bytes (cpace f)) (inr (there f fine.0 most r)),
    )
