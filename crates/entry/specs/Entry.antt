-- One Profile Selection Entry (CPA Annex A, A1 and A2; CPACE C.45): its test of the data, its action.
use Rattle.std.specs.Prelude.{ℕ, zero, suc, ◌+◌, ◌*◌, ◌-◌, Bool, false, cond, ◌&&◌, ◌||◌, List, length, ltb, leb, eqb}
use Rattle.std.specs.Int.Bits.{bit_and}
use Rattle.wire.specs.Wire.{number}
use Rattle.fields.specs.Fields.{entry_length, position, block_length, blocks, block_place, check_type, positive_action, negative_action}
use Rattle.slot.specs.Slot.{tests_slot, is_slot_sound, lacks_amount, slot_passes}
use Rattle.slot.specs.declared.Slots.{Slots}
use Rattle.entry.specs.declared.Action.{Action}
use Rattle.entry.specs.declared.Action.TheVariants.{Profile, Move, Refused}

-- the first of the blocks is the bit mask, block i is comparison value i
abbrev pub bit_mask : List ℕ → ℕ
bit_mask e = number e 4 (block_length e)

unfoldable pub block : List ℕ → ℕ → ℕ
block e i = number e (block_place e i) (block_length e)

-- all of it is there, and its lengths fit: E >= 6, n >= 2, E = n x L + 6
abbrev pub is_whole : List ℕ → Bool
is_whole e =
    eqb (length e) (entry_length e + 1)
    && leb 6 (entry_length e)
    && leb 2 (blocks e)
    && eqb (entry_length e) (blocks e * block_length e + 6)

-- and it has a known check type, L > 0 and P > 0
unfoldable pub is_well_formed : List ℕ → Bool
is_well_formed e = is_whole e && leb (check_type e) 2 && ltb 0 (block_length e) && ltb 0 (position e)

-- the stretch of the data: L bytes from position P on, the first byte being 1
unfoldable pub reaches_past : List ℕ → List ℕ → Bool
reaches_past e d = ltb (length d) (position e + block_length e - 1)

abbrev pub extracted : List ℕ → List ℕ → ℕ
extracted e d = number d (position e - 1) (block_length e)

-- the extracted value AND the bit mask; the comparison values are not masked
unfoldable pub masked : List ℕ → List ℕ → ℕ
masked e d = bit_and (extracted e d) (bit_mask e)

-- x equals any of the n comparison values from value i on
unfoldable pub is_any_of : ℕ → List ℕ → ℕ → ℕ → Bool
is_any_of x e i zero = false
is_any_of x e i (suc n) = eqb x (block e i) || is_any_of x e (suc i) n

-- 00 equal to any value, 01 less than value 1, 02 greater than value 1
unfoldable pub passes : List ℕ → List ℕ → Bool
passes e d =
    cond (eqb (check_type e) 0) (is_any_of (masked e d) e 1 (blocks e - 1))
    (cond (eqb (check_type e) 1) (ltb (masked e d) (block e 1)) (ltb (block e 1) (masked e d)))

-- b8 clear: the profile; b8 set: the entries to move down. Zero of either, and profile 7F, are refused
unfoldable pub action_of : ℕ → Action
action_of a =
    cond (ltb a 128)
    (cond (eqb a 0) Refused (cond (eqb a 127) Refused (Profile a)))
    (cond (eqb a 128) Refused (Move (a - 128)))

-- the action that a test leads to
abbrev pub action_after : List ℕ → (passed : Bool) → Action
action_after e passed = action_of (cond passed (positive_action e) (negative_action e))

-- WHAT A VISITED ENTRY DOES: one that tests the data, and one that tests an accumulator or a counter
unfoldable pub data_action : List ℕ → List ℕ → Action
data_action e d = cond (is_well_formed e) (cond (reaches_past e d) Refused (action_after e (passes e d))) Refused

unfoldable pub slot_action : List ℕ → List ℕ → Slots → Action
slot_action e d slots = cond (is_slot_sound e) (cond (lacks_amount e d) Refused (action_after e (slot_passes e d slots))) Refused

unfoldable pub action_taken : List ℕ → List ℕ → Slots → Action
action_taken e d slots = cond (tests_slot e slots) (slot_action e d slots) (data_action e d)
