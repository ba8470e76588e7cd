-- An entry that tests an accumulator or a counter (CPACE C.45, steps 2, 3, 7 and 8): the test.
use Rattle.std.specs.Prelude.{ℕ, ◌+◌, ◌-◌, Bool, false, cond, not, ◌&&◌, List, length, get_or, ltb, leb}
use Rattle.money.specs.Money.{stopped}
use Rattle.digits.specs.Digits.{are_pairs, pairs_value}
use Rattle.fields.specs.Fields.{position, check_type}
use Rattle.slot.specs.declared.Slots.{Slots}
use Rattle.block.specs.declared.Slot.{Slot}
use Rattle.block.specs.declared.Slot.TheVariants.{Accumulator, Counter}
pub use Rattle.block.specs.Block.{number_of, adds_transaction, asks_greater, block_fits, block_value}
unfoldable pub use Rattle.block.specs.Block.{slot_of, is_slot_sound}

-- b8 of the check type: the entry tests a slot; a CPA card's entries test none
unfoldable pub tests_slot : List ℕ → Slots → Bool
tests_slot e slots = slots.testable && leb 0x80 (check_type e)

-- THE TRANSACTION'S AMOUNT: six bytes of digits from position P of the data on, the first byte being 1
abbrev pub asks_amount : Slot → (check : ℕ) → Bool
asks_amount (Accumulator x) check = adds_transaction check
asks_amount (Counter x) check = false

unfoldable pub has_amount : List ℕ → (position : ℕ) → Bool
has_amount d p = ltb 0 p && leb (p + 5) (length d) && are_pairs d (p - 1) 6

unfoldable pub lacks_amount : List ℕ → List ℕ → Bool
lacks_amount e d = asks_amount (slot_of (check_type e)) (check_type e) && not (has_amount d (position e))

-- THE VALUE that is tested: the card's, or that with the transaction
abbrev pub value_of : Slots → Slot → ℕ
value_of slots (Accumulator x) = get_or slots.amounts (x - 1) 0
value_of slots (Counter x) = get_or slots.counts (x - 1) 0

-- plus the amount, stopped at MAX; plus 1, stopped at 255
abbrev pub with_transaction : Slot → (value : ℕ) → List ℕ → (position : ℕ) → ℕ
with_transaction (Accumulator x) value d p = stopped (value + pairs_value d (p - 1) 6)
with_transaction (Counter x) value d p = cond (ltb value 255) (value + 1) 255

unfoldable pub slot_value : List ℕ → List ℕ → Slots → ℕ
slot_value e d slots =
    cond (adds_transaction (check_type e))
    (with_transaction (slot_of (check_type e)) (value_of slots (slot_of (check_type e))) d (position e))
    (value_of slots (slot_of (check_type e)))

-- THE TEST: the value is greater than the block, or less
unfoldable pub slot_passes : List ℕ → List ℕ → Slots → Bool
slot_passes e d slots =
    cond (asks_greater (check_type e))
    (ltb (block_value (slot_of (check_type e)) e) (slot_value e d slots))
    (ltb (slot_value e d slots) (block_value (slot_of (check_type e)) e))
