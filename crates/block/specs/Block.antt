-- An entry that tests an accumulator or a counter (CPACE C.45, steps 2 and 3, and Table 74): its check type, and its one block.
use Rattle.std.specs.Prelude.{ℕ, ◌+◌, ◌/◌, ◌%◌, Bool, cond, not, ◌&&◌, List, length, eqb}
use Rattle.wire.specs.Wire.{byte}
use Rattle.digits.specs.Digits.{are_pairs, pairs_value}
use Rattle.fields.specs.Fields.{entry_length, block_length, blocks, check_type}
use Rattle.block.specs.declared.Slot.{Slot}
use Rattle.block.specs.declared.Slot.TheVariants.{Accumulator, Counter}

-- b7: an accumulator, else a counter; b6 and b5: its number x, and 00 is counter 4
unfoldable pub slot_of : (check : ℕ) → Slot
slot_of check =
    cond (eqb (check / 64 % 2) 1) (Accumulator (check / 16 % 4))
    (Counter (cond (eqb (check / 16 % 4) 0) 4 (check / 16 % 4)))

abbrev pub number_of : Slot → ℕ
number_of (Accumulator x) = x
number_of (Counter x) = x

-- b2: with the transaction
abbrev pub adds_transaction : (check : ℕ) → Bool
adds_transaction check = eqb (check / 2 % 2) 1

-- b1: greater than the block, else less
abbrev pub asks_greater : (check : ℕ) → Bool
asks_greater check = eqb (check % 2) 1

-- SOUND: n = 1, E = L + 6, and the block is one for its slot
-- there is no accumulator 0; an accumulator's block is six bytes of digits, a counter's one byte
abbrev pub block_fits : Slot → List ℕ → Bool
block_fits (Accumulator x) e = not (eqb x 0) && eqb (block_length e) 6 && are_pairs e 4 6
block_fits (Counter x) e = eqb (block_length e) 1

unfoldable pub is_slot_sound : List ℕ → Bool
is_slot_sound e =
    eqb (length e) (entry_length e + 1)
    && eqb (blocks e) 1
    && eqb (entry_length e) (block_length e + 6)
    && block_fits (slot_of (check_type e)) e

-- what the value is compared with
abbrev pub block_value : Slot → List ℕ → ℕ
block_value (Accumulator x) e = pairs_value e 4 6
block_value (Counter x) e = byte e 4
