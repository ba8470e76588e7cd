-- What an entry does hangs on its stretch of the data and on the slot that it tests, and on nothing else. Assumes nothing.
use mathlib.Core.Path.{◌≡◌, refl, sym, ap, ap₂, ◌∙◌}
use mathlib.Core.Bool.{Bool, true, false, not, ◌&&◌}
use mathlib.Core.List.{List}
use Prim.Native.Nat.{ℕ, zero, suc, ◌+◌, ◌*◌, ◌-◌, ◌≤◌, ◌<◌}
use native.Mathlib.Nat.{min-le_right}
use native.Mathlib.Omega.{arith}
use lib.ListN.{length, drop, length-take, length-drop}
use lib.Seq.{get_or-take, get_or-drop, length-take-le}
use lib.Dec.{ltb, leb, eqb}
use borrow.Author.Tests.{le-leb, lt-leb, eqb-true, ltb-true, ltb-false}
use Rattle.wire.specs.Wire.{byte, number}
use Rattle.wire.proofs.Pairs.{both}
use Rattle.digits.specs.Digits.{are_pairs, pairs_value}
use Rattle.digits.proofs.Facts.{same-pairs, same-value}
use Rattle.fields.specs.Fields.{entry_length, position, block_length, blocks, check_type}
use Rattle.slot.specs.Slot.{tests_slot, slot_of, adds_transaction, block_fits, is_slot_sound, has_amount, lacks_amount}
use Rattle.slot.specs.Slot.{value_of, slot_value, slot_passes}
use Rattle.slot.specs.declared.Slots.{Slots}
use Rattle.block.specs.declared.Slot.{Slot}
use Rattle.block.specs.declared.Slot.TheVariants.{Accumulator, Counter}
use Rattle.entry.specs.Entry.{is_well_formed, reaches_past, masked, passes, data_action, slot_action, action_taken}
use Rattle.entry.proofs.Facts.{has_position, has_length_lem, same_test}
use Rattle.selection.specs.Visits.{stretch, looked, Names}

-- a big-endian number is that of its bytes
same_number : (d d' : List ℕ) (p n : ℕ) → ((k : ℕ) → k < n → byte d (p + k) ≡ byte d' (p + k)) → number d p n ≡ number d' p n
unfolding number
same_number d d' p zero h = refl
same_number d d' p (suc n) h =
    ap₂ (λ (x b : ℕ). x * 256 + b) (same_number d d' p n (λ k l. h k (omega arith))) (h n (omega arith))

module _ (e d : List ℕ) (p : 0 < position e) (l : 0 < block_length e) where
  cut : length d < position e + block_length e - 1 → length (stretch e d) < block_length e
  cut h = simp (length-take, length-drop) (omega (arith, min-le_right (block_length e) (length d - (position e - 1))))

  whole : position e + block_length e - 1 ≤ length d → block_length e ≤ length (stretch e d)
  whole h = omega (arith, length-take-le (block_length e) (drop (position e - 1) d) (simp length-drop (omega arith)))

  -- an entry that reaches past the data has a stretch that is cut short
  past_is : reaches_past e d ≡ ltb (length (stretch e d)) (block_length e)
  unfolding reaches_past
  past_is = same_test (length d) (position e + block_length e - 1) (length (stretch e d)) (block_length e) cut whole

module _ (e d d' : List ℕ) (same : stretch e d ≡ stretch e d') where
  stretch-byte : (d : List ℕ) (k : ℕ) → k < block_length e → byte (stretch e d) k ≡ byte d (position e - 1 + k)
  stretch-byte d k h = get_or-take (block_length e) (drop (position e - 1) d) k 0 h ∙ get_or-drop (position e - 1) d k 0

  same_byte : (k : ℕ) → k < block_length e → byte d (position e - 1 + k) ≡ byte d' (position e - 1 + k)
  same_byte k h = sym (stretch-byte d k h) ∙ ap (λ (s : List ℕ). byte s k) same ∙ stretch-byte d' k h

  same-past : 0 < position e → 0 < block_length e → reaches_past e d ≡ reaches_past e d'
  same-past p l = past_is e d p l ∙ ap (λ (s : List ℕ). ltb (length s) (block_length e)) same ∙ sym (past_is e d' p l)

  -- an entry that tests the data
  same-passes : passes e d ≡ passes e d'
  unfolding passes masked
  same-passes = simp (same_number d d' (position e - 1) (block_length e) same_byte)

  same_data : data_action e d ≡ data_action e d'
  unfolding data_action
  same_data = by (is_well_formed e) refl
    where
      by : (w : Bool) → is_well_formed e ≡ w → data_action e d ≡ data_action e d'
      by true h = simp (same-past (has_position e h) (has_length_lem e h), same-passes)
      by false h = simp h

  -- an amount of six bytes
  module _ (six : block_length e ≡ 6) where
    same-amount : pairs_value d (position e - 1) 6 ≡ pairs_value d' (position e - 1) 6
    same-amount = same-value d d' (position e - 1) (position e - 1) 6 (λ k h. same_byte k (omega arith))

    same_digits : are_pairs d (position e - 1) 6 ≡ are_pairs d' (position e - 1) 6
    same_digits = same-pairs d d' (position e - 1) (position e - 1) 6 (λ k h. same_byte k (omega arith))

    within : (d : List ℕ) (t : Bool) → 0 < position e → reaches_past e d ≡ t → leb (position e + 5) (length d) ≡ not t
    unfolding reaches_past
    within d true p r = let h = ltb-true (length d) (position e + block_length e - 1) r in lt-leb (position e + 5) (length d) (omega arith)
    within d false p r = let h = ltb-false (length d) (position e + block_length e - 1) r in le-leb (position e + 5) (length d) (omega arith)

    same_has : has_amount d (position e) ≡ has_amount d' (position e)
    unfolding has_amount
    same_has = by (ltb 0 (position e)) refl
      where
        by : (t : Bool) → ltb 0 (position e) ≡ t → has_amount d (position e) ≡ has_amount d' (position e)
        by false h = simp h
        by true h =
            let p = ltb-true 0 (position e) h in
            let r = within d (reaches_past e d') p (same-past p (omega arith)) ∙ sym (within d' (reaches_past e d') p refl) in
            simp (h, r, same_digits)

-- a sound entry that tests a slot
module _ (e : List ℕ) (sound : is_slot_sound e ≡ true) where
  fits_slot : block_fits (slot_of (check_type e)) e ≡ true
  unfolding is_slot_sound
  fits_slot =
      (both (eqb (length e) (entry_length e + 1) && eqb (blocks e) 1 && eqb (entry_length e) (block_length e + 6))
      (block_fits (slot_of (check_type e)) e) sound).1

  six_bytes : (x : ℕ) → slot_of (check_type e) ≡ Accumulator x → block_length e ≡ 6
  six_bytes x g =
      let f = rw g at fits_slot in
      let (h, digits) = both (not (eqb x 0) && eqb (block_length e) 6) (are_pairs e 4 6) f in
      eqb-true (block_length e) 6 (both (not (eqb x 0)) (eqb (block_length e) 6) h).1

  module _ (d d' : List ℕ) (slots slots' : Slots) (tests : tests_slot e slots ≡ true) (seen : looked e d slots ≡ looked e d' slots)
      (same : value_of slots (slot_of (check_type e)) ≡ value_of slots' (slot_of (check_type e))) where
    abbrev SameTest : Type 0
    SameTest = (lacks_amount e d ≡ lacks_amount e d') × (slot_value e d slots ≡ slot_value e d' slots')

    by_slot : (x : Slot) (adds : Bool) → slot_of (check_type e) ≡ x → adds_transaction (check_type e) ≡ adds → SameTest
    unfolding lacks_amount slot_value
    by_slot (Counter x) adds g a = let v = rw g at same in (simp g, simp (g, v))
    by_slot (Accumulator x) false g a = let v = rw g at same in (simp (g, a), simp (g, a, v))
    by_slot (Accumulator x) true g a =
        let v = rw g at same in
        let s : stretch e d ≡ stretch e d' = simp (tests, g, a) at seen in
        let six = six_bytes x g in
        (simp (same_has e d d' s six), simp (g, a, v, same-amount e d d' s six))

    same_slot : slot_action e d slots ≡ slot_action e d' slots'
    unfolding slot_action slot_passes
    same_slot = let (l, v) = by_slot (slot_of (check_type e)) (adds_transaction (check_type e)) refl refl in simp (l, v)

-- an entry, in cards of one family
module _ (e d d' : List ℕ) (slots slots' : Slots) (family : slots.testable ≡ slots'.testable) (seen : looked e d slots ≡ looked e d' slots)
    (same : (x : Slot) → Names e slots x → value_of slots x ≡ value_of slots' x) where
  same_tests : tests_slot e slots ≡ tests_slot e slots'
  unfolding tests_slot
  same_tests = simp family

  pub same_action : action_taken e d slots ≡ action_taken e d' slots'
  unfolding action_taken slot_action
  same_action = by (tests_slot e slots) (is_slot_sound e) refl refl
    where
      by : (t s : Bool) → tests_slot e slots ≡ t → is_slot_sound e ≡ s → action_taken e d slots ≡ action_taken e d' slots'
      by false s t h = let f = sym same_tests ∙ t in simp (t, f) (same_data e d d' (simp t at seen))
      by true false t h = let f = sym same_tests ∙ t in simp (t, f, h)
      by true true t h =
          let f = sym same_tests ∙ t in
          simp (t, f) (same_slot e h d d' slots slots' t seen (same (slot_of (check_type e)) (t, h, refl)))
