-- One walk built by hand, from the bytes of a file and of the data: a block of three bytes that is not greater, three values of one byte
-- of which none is equal, and a block of eight bytes that is less. Assumes nothing.
use mathlib.Core.Path.{◌≡◌, refl}
use mathlib.Core.Bool.{Bool, true, ◌&&◌}
use mathlib.Core.List.{List, [], ◌∷◌, ◌++◌}
use Prim.Native.Nat.{ℕ, zero, suc, ◌+◌, ◌-◌, ◌≤◌, ◌<◌}
use native.Mathlib.Omega.{arith}
use borrow.Author.Tests.{ltb-true}
use lib.Dec.{ltb}
use lib.ListN.{length, replicate, get_or-eq_default}
use Rattle.wire.proofs.Pairs.{both}
use Rattle.selection.specs.Selection.{selection_of}
use Rattle.slot.specs.declared.Slots.{Slots}
use Rattle.annex.specs.Annex.{Bytes, place, start, width, value, seen, bit, OfSlot, Passes, equal, less, greater, slot_less, slot_greater}
use Rattle.annex.specs.Annex.{Lacks, reaches_past_lem, amount_nowhere, amount-past, amount_no_digits, passed, failed, Walks, names, moves}
use Rattle.annex.proofs.Order.{one_way}
use Rattle.annex.proofs.Form.{Whole, of_data, broken}
use Rattle.annex.proofs.Walked.{walked}
use Rattle.std.specs.Prelude.{Some}

-- the entries stand at 0, 13 and 24
abbrev pub file : List ℕ
file =
    (0x0C ∷ 1 ∷ 3 ∷ 2 ∷ 0xFF ∷ 0xFF ∷ 0xFF ∷ 1 ∷ 0 ∷ 0 ∷ 2 ∷ 0x05 ∷ 0x81 ∷ [])
    ++ (0x0A ∷ 2 ∷ 1 ∷ 4 ∷ 0x0F ∷ 0x1F ∷ 0x2F ∷ 0x3F ∷ 0 ∷ 0x07 ∷ 0x81 ∷ [])
    ++ (0x1E ∷ 4 ∷ 8 ∷ 3 ∷ []) ++ replicate 8 0xFF ++ replicate 6 0 ++ (1 ∷ 0 ∷ []) ++ replicate 8 0 ++ (1 ∷ 0x03 ∷ 0x00 ∷ [])

abbrev pub terminal : List ℕ
terminal = 0 ∷ 0xFF ∷ 0xFF ∷ replicate 7 0 ++ 0xFF ∷ []

abbrev are_bytes : List ℕ → Bool
are_bytes [] = true
are_bytes (b ∷ s) = ltb b 256 && are_bytes s

pub bytes : (s : List ℕ) → are_bytes s ≡ true → Bytes s
bytes [] h i = omega (arith, get_or-eq_default {A = ℕ} [] 0 {n = i} (omega arith))
bytes (b ∷ s) h zero = ltb-true b 256 (both (ltb b 256) (are_bytes s) h).0
bytes (b ∷ s) h (suc i) = bytes s (both (ltb b 256) (are_bytes s) h).1 i

whole-first : Whole file 0
whole-first = record { fits = omega arith; six = omega arith; two = omega arith; wide = omega arith; some = omega arith; sum = refl; known = omega arith }

whole-second : Whole file 13
whole-second = record { fits = omega arith; six = omega arith; two = omega arith; wide = omega arith; some = omega arith; sum = refl; known = omega arith }

whole-third : Whole file 24
whole-third = record { fits = omega arith; six = omega arith; two = omega arith; wide = omega arith; some = omega arith; sum = refl; known = omega arith }

-- in every card
module _ (slots : Slots) where
  -- the stretch is there
  there : (at : ℕ) → start file at + width file at - 1 ≤ length terminal → (OfSlot file at slots → ⊥) → Lacks file at slots terminal → ⊥
  there at l n (reaches_past_lem o h) = omega arith
  there at l n (amount_nowhere a z) = n a.0
  there at l n (amount-past a h) = n a.0
  there at l n (amount_no_digits a m) = n a.0

  -- 00FFFF is less than 010000
  not_greater : Passes file 0 slots terminal → ⊥
  not_greater (equal i c l h s) = omega arith
  not_greater (less c s) = omega arith
  not_greater (slot_less v b o t k h) = omega (arith, o.1)
  not_greater (slot_greater v b o t k h) = omega (arith, o.1)
  not_greater (greater c s) =
      one_way 3 (value file 0 1) (seen file 0 terminal) s
      (record { differ = 0; within = omega arith; before = λ j h. absurd (omega arith); smaller = omega arith })

  -- 0F is none of 1F, 2F and 3F
  none_equal : Passes file 13 slots terminal → ⊥
  none_equal (equal zero c l h s) = omega arith
  none_equal (equal (suc zero) c l h s) = omega (arith, s 0 (omega arith))
  none_equal (equal (suc (suc zero)) c l h s) = omega (arith, s 0 (omega arith))
  none_equal (equal (suc (suc (suc zero))) c l h s) = omega (arith, s 0 (omega arith))
  none_equal (equal (suc (suc (suc (suc i)))) c l h s) = omega arith
  none_equal (less c s) = omega arith
  none_equal (greater c s) = omega arith
  none_equal (slot_less v b o t k h) = omega (arith, o.1)
  none_equal (slot_greater v b o t k h) = omega (arith, o.1)

  -- 00000000000000FF is less than 0000000000000100
  its_less : Passes file 24 slots terminal
  its_less = less refl (record { differ = 6; within = omega arith; before = zeros; smaller = omega arith })
    where
      zeros : (j : ℕ) → j < 6 → seen file 24 terminal j ≡ value file 24 1 j
      zeros zero h = refl
      zeros (suc zero) h = refl
      zeros (suc (suc zero)) h = refl
      zeros (suc (suc (suc zero))) h = refl
      zeros (suc (suc (suc (suc zero)))) h = refl
      zeros (suc (suc (suc (suc (suc zero))))) h = refl
      zeros (suc (suc (suc (suc (suc (suc j)))))) h = absurd (omega arith)

  pub walk : Walks file 3 slots terminal 0 3 3
  unfolding place
  walk =
      let no_slot : (at : ℕ) → bit file at 8 ≡ 0 → OfSlot file at slots → ⊥ = λ at z o. omega (arith, o.1) in
      let first = no_slot 0 refl in
      let second = no_slot 13 refl in
      let third = no_slot 24 refl in
      moves 0 1 3 2
      ((omega arith, failed (λ i. broken file 0 slots i (of_data first whole-first)) (there 0 (omega arith) first) not_greater refl), omega arith, omega arith)
      (moves 1 1 3 1
      ((omega arith, failed (λ i. broken file 13 slots i (of_data second whole-second)) (there 13 (omega arith) second) none_equal refl), omega arith, omega arith)
      (names 2 3
      (omega arith, passed (λ i. broken file 24 slots i (of_data third whole-third)) (there 24 (omega arith) third) its_less refl) (omega arith) (omega arith)))

  -- so that the premises can be met
  pub selected : selection_of file 3 terminal slots ≡ Some (record { profile = 3; visits = 3 })
  selected = (walked file 3 slots terminal (bytes file refl) (bytes terminal refl) 3 3).1 walk
