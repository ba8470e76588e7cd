-- The profile that a Start selects does not hang on the value of a meter that no visited entry tests. Assumes nothing.
use mathlib.Core.Path.{◌≡◌, refl, ap, ◌∙◌}
use mathlib.Core.Bool.{Bool, true, false, cond, not, ◌&&◌}
use mathlib.Core.List.{List}
use Prim.Native.Nat.{ℕ, ◌+◌, ◌-◌, ◌/◌, ◌%◌}
use native.Mathlib.Omega.{arith}
use borrow.Author.Tests.{eqb-true, eqb-false}
use lib.Dec.{eqb}
use lib.ListN.{length}
use Rattle.wire.proofs.Pairs.{both}
use Rattle.digits.specs.Digits.{are_pairs}
use Rattle.fields.specs.Fields.{entry_length, block_length, blocks, check_type}
use Rattle.rules.specs.declared.Values.{Values}
use Rattle.purchase.specs.Meter.{Meter, accumulator, counter, cyclic, value_of as meter_value}
use Rattle.block.specs.declared.Slot.{Slot}
use Rattle.block.specs.declared.Slot.TheVariants.{Accumulator, Counter}
use Rattle.block.specs.Block.{slot_of, number_of, block_fits, is_slot_sound}
use Rattle.slot.specs.declared.Slots.{Slots}
use Rattle.slot.specs.Slot.{value_of}
use Rattle.selection.specs.Selection.{selection_of}
use Rattle.selection.specs.Visits.{Names, Tests, entry_at}
use Rattle.selection.proofs.Only.{only-tested}
use Rattle.shape.specs.declared.Family.{Family}
use Rattle.shape.specs.declared.Shape.{Shape}
use Rattle.choice.specs.Choice.{file_in, slots_of}
use Rattle.command.specs.Command.{command_of, start_selected, selecting_of, read_by, command_in}
use Rattle.apart.specs.Off.{IsSlot, IsUntested}
use Rattle.apart.proofs.Values.{Beside, four-at}
use Rattle.std.specs.Prelude.{None, Option, Some}
use Rattle.shape.specs.declared.SelectionFile.{SelectionFile}

-- ---- a slot that an entry tests has a number from 1 on

by_bits : (s t : Bool) (m k : ℕ) → eqb m 0 ≡ t → cond s (Accumulator m) (Counter (cond t 4 m)) ≡ Counter k → k ≡ 0 → ⊥
by_bits true t m k e f z = let n : ◌≡◌ {A = ℕ} 0 1 = cc in omega arith
by_bits false true m k e f z = let n : 4 ≡ k = cc in omega arith
by_bits false false m k e f z = let n : m ≡ k = cc in eqb-false m 0 e (n ∙ z)

counter-some : (check k : ℕ) → slot_of check ≡ Counter k → k ≡ 0 → ⊥
unfolding slot_of
counter-some check k e z = by_bits (eqb (check / 64 % 2) 1) (eqb (check / 16 % 4) 0) (check / 16 % 4) k refl e z

accumulator-some : (e : List ℕ) (k : ℕ) → is_slot_sound e ≡ true → slot_of (check_type e) ≡ Accumulator k → k ≡ 0 → ⊥
unfolding is_slot_sound
accumulator-some e k sound is z =
    let fits =
    (both (eqb (length e) (entry_length e + 1) && eqb (blocks e) 1 && eqb (entry_length e) (block_length e + 6))
    (block_fits (slot_of (check_type e)) e) sound).1 in
    let all = rw is at fits in
    let some = (both (not (eqb k 0)) (eqb (block_length e) 6) (both (not (eqb k 0) && eqb (block_length e) 6) (are_pairs e 4 6) all).0).0 in
    let none : not (eqb 0 0) ≡ true = rw z at some in
    let n : ◌≡◌ {A = ℕ} 0 1 = cc in
    omega arith

names-some : (e : List ℕ) (slots : Slots) (slot : Slot) → Names e slots slot → number_of slot ≡ 0 → ⊥
names-some e slots (Accumulator k) names z = accumulator-some e k names.1 names.2 z
names-some e slots (Counter k) names z = counter-some (check_type e) k names.2 z

-- ---- the selection

module _ (x : Meter) (v w : Values) (b : Beside x v w) (family : Family) where
  -- a slot that is not x has the same value
  slot_same : (slot : Slot) → (number_of slot ≡ 0 → ⊥) → (IsSlot x slot → ⊥) → value_of (slots_of family v) slot ≡ value_of (slots_of family w) slot
  unfolding slots_of
  slot_same (Accumulator k) some not-x =
      four-at 0 (λ i. meter_value v (accumulator i)) (λ i. meter_value w (accumulator i)) (k - 1) (b.others (accumulator (k - 1)) (another x not-x))
    where
      another : (y : Meter) → (IsSlot y (Accumulator k) → ⊥) → accumulator (k - 1) ≡ y → ⊥
      another (accumulator i) h e = let s : k - 1 ≡ i = cc in h (ap Accumulator (let z : k ≡ i + 1 = omega arith in z))
      another (counter i) h e = let z : ◌≡◌ {A = ℕ} 0 1 = cc in omega arith
      another (cyclic i) h e = let z : ◌≡◌ {A = ℕ} 0 1 = cc in omega arith
  slot_same (Counter k) some not-x = b.others (counter (k - 1)) (another x not-x)
    where
      another : (y : Meter) → (IsSlot y (Counter k) → ⊥) → counter (k - 1) ≡ y → ⊥
      another (accumulator i) h e = let z : ◌≡◌ {A = ℕ} 0 1 = cc in omega arith
      another (counter i) h e = let s : k - 1 ≡ i = cc in h (ap Counter (let z : k ≡ i + 1 = omega arith in z))
      another (cyclic i) h e = let z : ◌≡◌ {A = ℕ} 0 1 = cc in omega arith

  selection-same : (file : List ℕ) (n : ℕ) (d : List ℕ) → ((slot : Slot) → IsSlot x slot → Tests file n d (slots_of family v) slot → ⊥)
      → selection_of file n d (slots_of family v) ≡ selection_of file n d (slots_of family w)
  unfolding slots_of
  selection-same file n d untested =
      (only-tested file n d (slots_of family v) (slots_of family w) refl
      (λ slot tests. slot_same slot
      (names-some (entry_at file n tests.place) (slots_of family v) slot tests.names) (λ is. untested slot is tests))).0

-- THE COMMAND IN A RECORD
pub command-same : (x : Meter) (v w : Values) → Beside x v w → (shape : Shape) (paper : List ℕ) (kind : ℕ) (body : List ℕ)
    → IsUntested shape.selecting (slots_of shape.family v) paper kind body x
    → command_in shape v paper kind body ≡ command_in shape w paper kind body
unfolding command_in
command-same x v w b shape paper kind body untested = by shape.selecting untested where
  by : (selecting : Option SelectionFile) → IsUntested selecting (slots_of shape.family v) paper kind body x
      → read_by selecting shape.dating shape.family (slots_of shape.family v) paper kind body
      ≡ read_by selecting shape.dating shape.family (slots_of shape.family w) paper kind body
  by None untested = refl
  by (Some part) untested = by_kind (eqb kind 2) refl where
    by_kind : (t : Bool) → eqb kind 2 ≡ t
        → selecting_of shape.dating shape.family (slots_of shape.family v) (file_in paper part.start part.end) part.entries kind body
        ≡ selecting_of shape.dating shape.family (slots_of shape.family w) (file_in paper part.start part.end) part.entries kind body
    by_kind true e =
        unfold selecting_of in
        ap (λ chosen. cond (eqb kind 2) (start_selected shape.family chosen body) (command_of shape.dating shape.family kind body))
        (selection-same x v w b shape.family (file_in paper part.start part.end) part.entries body (untested (eqb-true kind 2 e)))
    by_kind false e = unfold selecting_of in (rw e)
