-- What the tests on an entry show. Assumes nothing.
use mathlib.Core.Path.{◌≡◌, refl, sym}
use mathlib.Core.Bool.{Bool, true, false, cond, ◌&&◌}
use mathlib.Core.List.{List}
use Prim.Native.Nat.{ℕ, ◌+◌, ◌*◌, ◌-◌, ◌≤◌, ◌<◌}
use native.Mathlib.Omega.{arith}
use lib.ListN.{length}
use lib.Dec.{ltb, leb, eqb}
use borrow.Author.Tests.{lt-ltb, le-ltb, ltb-true, ltb-false, eqb-false}
use Rattle.wire.proofs.Pairs.{both}
use Rattle.fields.specs.Fields.{position, block_length, blocks, blocks_end, check_type, positive_action, negative_action}
use Rattle.slot.specs.Slot.{tests_slot, is_slot_sound, lacks_amount, slot_passes}
use Rattle.slot.specs.declared.Slots.{Slots}
use Rattle.entry.specs.Entry.{is_whole, is_well_formed, reaches_past, passes, action_of, data_action, slot_action, action_taken}
use Rattle.entry.specs.declared.Action.TheVariants.{Profile, Move, Refused}

module _ (e : List ℕ) (h : is_well_formed e ≡ true) where
  pub has_position : 0 < position e
  unfolding is_well_formed
  has_position = ltb-true 0 (position e) (both (is_whole e && leb (check_type e) 2 && ltb 0 (block_length e)) _ h).1

  pub has_length_lem : 0 < block_length e
  unfolding is_well_formed
  has_length_lem =
      let l = (both (is_whole e && leb (check_type e) 2 && ltb 0 (block_length e)) (ltb 0 (position e)) h).0 in
      ltb-true 0 (block_length e) (both (is_whole e && leb (check_type e) 2) _ l).1

by : (a b c d : ℕ) → (a < b → c < d) → (b ≤ a → d ≤ c) → (t : Bool) → ltb a b ≡ t → t ≡ ltb c d
by a b c d f g true e = sym (lt-ltb c d (f (ltb-true a b e)))
by a b c d f g false e = sym (le-ltb c d (g (ltb-false a b e)))

pub same_test : (a b c d : ℕ) → (a < b → c < d) → (b ≤ a → d ≤ c) → ltb a b ≡ ltb c d
same_test a b c d f g = by a b c d f g (ltb a b) refl

pub past_test : (e d : List ℕ) (p l : ℕ) → p ≡ position e → l ≡ block_length e → ltb (length d + 1) (p + l) ≡ reaches_past e d
unfolding reaches_past
past_test e d p l hp hl = rw (← hp, ← hl) (same_test (length d + 1) (p + l) (length d) (p + l - 1) (λ h. omega arith) (λ h. omega arith))

pub ends : (e : List ℕ) (r : ℕ) → r ≡ blocks_end e → r + 2 ≡ blocks e * block_length e + 6
ends e r h = omega arith

-- a move is one entry at least
by_tests : (a m : ℕ) (s t u v : Bool) → ltb a 128 ≡ s → eqb a 128 ≡ v
    → cond s (cond t Refused (cond u Refused (Profile a))) (cond v Refused (Move (a - 128))) ≡ Move m → 1 ≤ m
by_tests a m true true u v e f g = let z : ◌≡◌ {A = ℕ} 0 1 = cc in omega arith
by_tests a m true false true v e f g = let z : ◌≡◌ {A = ℕ} 0 1 = cc in omega arith
by_tests a m true false false v e f g = let z : ◌≡◌ {A = ℕ} 0 1 = cc in omega arith
by_tests a m false t u true e f g = let z : ◌≡◌ {A = ℕ} 0 1 = cc in omega arith
by_tests a m false t u false e f g =
    let z : a - 128 ≡ m = cc in
    let l = ltb-false a 128 e in
    let o = eqb-false a 128 f in
    omega arith

action_moves : (a m : ℕ) → action_of a ≡ Move m → 1 ≤ m
unfolding action_of
action_moves a m e = by_tests a m (ltb a 128) (eqb a 0) (eqb a 127) (eqb a 128) refl refl e

by_form : (s t : Bool) (a m : ℕ) → cond s (cond t Refused (action_of a)) Refused ≡ Move m → 1 ≤ m
by_form true true a m e = let z : ◌≡◌ {A = ℕ} 0 1 = cc in omega arith
by_form true false a m e = action_moves a m e
by_form false t a m e = let z : ◌≡◌ {A = ℕ} 0 1 = cc in omega arith

pub moves_down : (e d : List ℕ) (slots : Slots) (m : ℕ) → action_taken e d slots ≡ Move m → 1 ≤ m
unfolding action_taken data_action slot_action
moves_down e d slots m h = by (tests_slot e slots) h
  where
    by : (t : Bool) → cond t (slot_action e d slots) (data_action e d) ≡ Move m → 1 ≤ m
    by true h = by_form (is_slot_sound e) (lacks_amount e d) (cond (slot_passes e d slots) (positive_action e) (negative_action e)) m h
    by false h = by_form (is_well_formed e) (reaches_past e d) (cond (passes e d) (positive_action e) (negative_action e)) m h
