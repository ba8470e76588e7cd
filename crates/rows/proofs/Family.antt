-- The tail of version 05 of a CPACE card: each field of its spelling stands at the offset that docs/PAPERS.md gives; and every tail of its length that
-- begins with 1 is the spelling of some. Assumes nothing.
use mathlib.Core.Path.{◌≡◌, refl, sym, ap, ◌∙◌}
use mathlib.Core.List.{List, ◌++◌}
use Prim.Native.Nat.{ℕ, ◌+◌}
use native.Mathlib.Omega.{arith}
use lib.ListN.{length}
use Rattle.wire.specs.Wire.{byte, number}
use Rattle.wire.proofs.Numbers.{one}
use Rattle.setup.proofs.Faithful.{Bytes}
use Rattle.rows.specs.Rows.{Fits, widths, spelled, each, Controls, listed, byte_row, controls_row}
use Rattle.rows.specs.Offsets.{ControlsOffsets}
use Rattle.rows.proofs.Spelling.{Stands, stands-whole, stands_fit, whole-spelled, parts, joins, widths-each, spelled-size}
use Rattle.rows.proofs.Placed.{at_byte, bytes_in_lem}
use Rattle.rows.proofs.Unspelled.{made, made_size, made_stands, in_four, four-stands, counter-stands}

controls-width : (f : Controls) → widths (controls_row f) ≡ 9 + length f.cashbacks
unfolding controls_row
controls-width f = let r = widths-each byte_row 1 (λ v. refl) f.cashbacks in omega arith

-- 9 + p bytes
pub controls-size : (f : Controls) → length (spelled (controls_row f)) ≡ 9 + length f.cashbacks
controls-size f = spelled-size (controls_row f) ∙ controls-width f

-- THE STATEMENT: each offset is the sum of the widths before it
pub controls_in_place : (f : Controls) → Fits (controls_row f) → ControlsOffsets (spelled (controls_row f)) f
unfolding controls_row Stands
controls_in_place f fits =
    let t = spelled (controls_row f) in
    let accumulators = each byte_row (listed f.accumulators) in
    let counters = each byte_row (listed f.counters) in
    let cashbacks = each byte_row f.cashbacks in
    let (head, behind) = parts t (byte_row 1) (accumulators ++ (counters ++ cashbacks)) 0 (stands-whole (controls_row f) fits) in
    let (first, after) = parts t accumulators (counters ++ cashbacks) 1 behind in
    let (second, third) = parts t counters cashbacks 5 after in
    record {
      family = at_byte t 0 1 head.0;
      accumulators = λ i l. bytes_in_lem t 1 (listed f.accumulators) first i l f.accumulators.one;
      counters = λ i l. bytes_in_lem t 5 (listed f.counters) second i l f.counters.one;
      cashbacks = bytes_in_lem t 9 f.cashbacks third;
    }

-- ---- back

module _ (t : List ℕ) (p : ℕ) (on : byte t 0 ≡ 1) where
  byte_from : ℕ → ℕ
  byte_from at = number t at 1

  controls_from : Controls
  controls_from = record { accumulators = in_four byte_from 1 1; counters = in_four byte_from 1 5; cashbacks = made byte_from 1 9 p }

  byte-stands : (at : ℕ) → Stands t at (byte_row (byte_from at))
  unfolding byte_from
  byte-stands = counter-stands t

  controls_stand : Stands t 0 (controls_row controls_from)
  unfolding controls_row controls_from Stands
  controls_stand =
      let accumulators = each byte_row (listed (in_four byte_from 1 1)) in
      let counters = each byte_row (listed (in_four byte_from 1 5)) in
      let cashbacks = each byte_row (made byte_from 1 9 p) in
      let four = four-stands t byte_row 1 (λ v. refl) byte_from byte-stands in
      joins t (byte_row 1) (accumulators ++ (counters ++ cashbacks)) 0 (one t 0 ∙ on, tt)
      (joins t accumulators (counters ++ cashbacks) 1 (four 1)
      (joins t counters cashbacks 5 (four 5) (made_stands t byte_row 1 (λ v. refl) byte_from byte-stands p 9)))

  -- THE STATEMENT
  pub controls_if_sized : Bytes t → length t ≡ 9 + p → (f : Controls) × Fits (controls_row f) × (length f.cashbacks ≡ p) × (spelled (controls_row f) ≡ t)
  unfolding controls_from
  controls_if_sized bytes size =
      let f = controls_from in
      let few : length f.cashbacks ≡ p = made_size byte_from 1 9 p in
      let width : widths (controls_row f) ≡ length t = controls-width f ∙ ap (λ n. 9 + n) few ∙ sym size in
      (f, stands_fit t bytes (controls_row f) 0 controls_stand, few, whole-spelled t bytes (controls_row f) width controls_stand)
