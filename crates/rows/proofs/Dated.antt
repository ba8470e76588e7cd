-- The tail of version 04 where dates are on: each field of its spelling stands at the offset that docs/PAPERS.md gives; and every tail of its length that
-- begins with 1 is the spelling of some. Assumes nothing.
use mathlib.Core.Path.{◌≡◌, refl, sym, ap, subst, ◌∙◌}
use mathlib.Core.List.{List, ◌++◌}
use Prim.Native.Nat.{ℕ, ◌+◌, ◌*◌, ◌<◌}
use native.Mathlib.Nat.{add-zero}
use native.Mathlib.Omega.{arith}
use lib.ListN.{length, get_or}
use Rattle.wire.specs.Wire.{byte, number}
use Rattle.wire.proofs.Numbers.{one}
use Rattle.setup.proofs.Faithful.{Bytes}
use Rattle.rows.specs.Rows.{Field, Fits, widths, spelled, each, Two, Cyclic, CyclicLimit, Cycles, paired}
use Rattle.rows.specs.Rows.{dated_row, cyclic_row, cyclic_limit_row, cyclic_limits_row, cycles_row}
use Rattle.rows.specs.Offsets.{of_two, CyclicOffsets, CyclicLimitOffsets, CyclesOffsets}
use Rattle.rows.proofs.Spelling.{Stands, stands-whole, stands_at_lem, stands_fit, whole-spelled, parts, joins, each_stands, widths-each, spelled-size}
use Rattle.rows.proofs.Placed.{at_byte}
use Rattle.rows.proofs.Unspelled.{made, made_size, made_stands}

limits-width : (r : Two CyclicLimit) → widths (cyclic_limits_row r) ≡ 18
unfolding cyclic_limits_row
limits-width r = refl

cycles-width : (d : Cycles) → widths (cycles_row d) ≡ 28 + 18 * length d.rules
unfolding cycles_row
cycles-width d = let r = widths-each cyclic_limits_row 18 limits-width d.rules in omega arith

-- 28 + 18p bytes
pub cycles-size : (d : Cycles) → length (spelled (cycles_row d)) ≡ 28 + 18 * length d.rules
cycles-size d = spelled-size (cycles_row d) ∙ cycles-width d

-- ---- where the fields stand

module _ (t : List ℕ) where
  cyclic-offsets : (at : ℕ) (c : Cyclic) → Stands t at (cyclic_row c) → CyclicOffsets t at c
  unfolding Stands
  cyclic-offsets at c h =
      let q = stands_at_lem t (cyclic_row c) at h in
      record { currency = h.0; amount = q 1; kind = at_byte t (at + 10) c.kind (q 2); first = at_byte t (at + 11) c.first (q 3) }

  limit-offsets : (at : ℕ) (l : CyclicLimit) → Stands t at (cyclic_limit_row l) → CyclicLimitOffsets t at l
  unfolding Stands
  limit-offsets at l h = record { switches = at_byte t at l.switches h.0; limit = h.1.0 }

  limits-offsets : (at : ℕ) (r : Two CyclicLimit) → Stands t at (cyclic_limits_row r) → (i : ℕ) → i < 2 → CyclicLimitOffsets t (at + 9 * i) (of_two r i)
  unfolding cyclic_limits_row
  limits-offsets at r h i l =
      let there : at + (0 + 9 * i) ≡ at + 9 * i = omega arith in
      let from = each_stands t cyclic_limit_row 9 (λ l. refl) at (paired r) 0 (subst (λ n. Stands t n (each cyclic_limit_row (paired r))) (sym (add-zero at)) h) in
      subst (λ n. CyclicLimitOffsets t n (of_two r i)) there (limit-offsets (at + (0 + 9 * i)) (of_two r i) (from i l r.one))

-- THE STATEMENT: each offset is the sum of the widths before it
pub cycles_in_place : (d : Cycles) → Fits (cycles_row d) → CyclesOffsets (spelled (cycles_row d)) d
unfolding cycles_row
cycles_in_place d fits =
    let t = spelled (cycles_row d) in
    let accumulators = each cyclic_row (paired d.accumulators) in
    let rules = each cyclic_limits_row d.rules in
    let (head, behind) = parts t (dated_row d) (accumulators ++ rules) 0 (stands-whole (cycles_row d) fits) in
    let (middle, after) = parts t accumulators rules 4 behind in
    let q = stands_at_lem t (dated_row d) 0 head in
    let a = each_stands t cyclic_row 12 (λ c. refl) 0 (paired d.accumulators) 4 middle in
    let r = each_stands t cyclic_limits_row 18 limits-width 0 d.rules 28 after in
    record {
      dated = at_byte t 0 1 (q 0);
      year = at_byte t 1 d.year (q 1);
      month = at_byte t 2 d.month (q 2);
      day = at_byte t 3 d.day (q 3);
      accumulators =
          λ i l.
          let there : 0 + (4 + 12 * i) ≡ 4 + 12 * i = omega arith in
          subst (λ n. CyclicOffsets t n (of_two d.accumulators i)) there
          (cyclic-offsets t (0 + (4 + 12 * i)) (of_two d.accumulators i) (a i l d.accumulators.one));
      rules =
          λ j m e i l.
          let there : 0 + (28 + 18 * j) ≡ 28 + 18 * j = omega arith in
          limits-offsets t (28 + 18 * j) (get_or d.rules j e) (subst (λ n. Stands t n (cyclic_limits_row (get_or d.rules j e))) there (r j m e)) i l;
    }

-- ---- back

in_two : {A : Type 0} → (ℕ → A) → (w at : ℕ) → Two A
in_two f w at = record { one = f at; two = f (at + w) }

module _ (t : List ℕ) where
  two_stand : {A : Type 0} (row : A → List Field) (w : ℕ) → ((x : A) → widths (row x) ≡ w)
      → (f : ℕ → A) → ((at : ℕ) → Stands t at (row (f at)))
      → (at : ℕ) → Stands t at (each row (paired (in_two f w at)))
  unfolding made in_two
  two_stand row w same f there at = made_stands t row w same f there 2 at

  cyclic_from : ℕ → Cyclic
  cyclic_from at = record { currency = number t at 2; amount = number t (at + 2) 8; kind = number t (at + 2 + 8) 1; first = number t (at + 2 + 8 + 1) 1 }

  limit_from : ℕ → CyclicLimit
  limit_from at = record { switches = number t at 1; limit = number t (at + 1) 8 }

  limits_from : ℕ → Two CyclicLimit
  limits_from at = in_two limit_from 9 at

  cycles_from : (p : ℕ) → Cycles
  cycles_from p =
      record {
        year = number t 1 1;
        month = number t 2 1;
        day = number t 3 1;
        accumulators = in_two cyclic_from 12 4;
        rules = made limits_from 18 28 p;
      }

  cyclic-stands : (at : ℕ) → Stands t at (cyclic_row (cyclic_from at))
  unfolding Stands cyclic_from
  cyclic-stands at = (refl, (refl, (refl, (refl, tt))))

  limit-stands : (at : ℕ) → Stands t at (cyclic_limit_row (limit_from at))
  unfolding Stands limit_from
  limit-stands at = (refl, (refl, tt))

  limits_stand : (at : ℕ) → Stands t at (cyclic_limits_row (limits_from at))
  unfolding cyclic_limits_row limits_from
  limits_stand at = two_stand cyclic_limit_row 9 (λ l. refl) limit_from limit-stands at

  module _ (p : ℕ) (on : byte t 0 ≡ 1) where
    dated-stands : Stands t 0 (dated_row (cycles_from p))
    unfolding Stands cycles_from
    dated-stands = (one t 0 ∙ on, (refl, (refl, (refl, tt))))

    cycles_stand : Stands t 0 (cycles_row (cycles_from p))
    unfolding cycles_row cycles_from
    cycles_stand =
        let accumulators = each cyclic_row (paired (in_two cyclic_from 12 4)) in
        let rules = each cyclic_limits_row (made limits_from 18 28 p) in
        joins t (dated_row (cycles_from p)) (accumulators ++ rules) 0 dated-stands
        (joins t accumulators rules 4 (two_stand cyclic_row 12 (λ c. refl) cyclic_from cyclic-stands 4)
        (made_stands t cyclic_limits_row 18 limits-width limits_from limits_stand p 28))

    -- THE STATEMENT
    pub cycles_if_sized : Bytes t → length t ≡ 28 + 18 * p → (d : Cycles) × Fits (cycles_row d) × (length d.rules ≡ p) × (spelled (cycles_row d) ≡ t)
    unfolding cycles_from
    cycles_if_sized bytes size =
        let d = cycles_from p in
        let few : length d.rules ≡ p = made_size limits_from 18 28 p in
        let width : widths (cycles_row d) ≡ length t = cycles-width d ∙ ap (λ n. 28 + 18 * n) few ∙ sym size in
        (d, stands_fit t bytes (cycles_row d) 0 cycles_stand, few, whole-spelled t bytes (cycles_row d) width cycles_stand)
