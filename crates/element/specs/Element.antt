-- One element of a PUT DATA command's list, and what it writes (request Twelve; CPA 18.8, Tables 18-6 and J-1).
use Rattle.std.specs.Prelude.{Bool, cond, ◌&&◌, ◌||◌, List, ℕ, ◌+◌, ◌-◌, length, take, drop, ltb, leb, eqb, None, Some, Option}
use Rattle.wire.specs.Wire.{byte, number}
use Rattle.money.specs.declared.AccumulatorAmount.{AccumulatorAmount}
use Rattle.digits.specs.Digits.{are_pairs, pairs_value}
use Rattle.element.specs.declared.Write.{Write}
use Rattle.element.specs.declared.Write.TheVariants.{Value, AccumulatorLimits, CounterLimits}

-- A LENGTH: one byte, 00 to 7F, or 81 and one byte
abbrev pub is_length : (lead : ℕ) → Bool
is_length lead = ltb lead 0x80 || eqb lead 0x81

-- how many bytes write the one at a place, and the length
unfoldable pub length_size : List ℕ → (at : ℕ) → ℕ
length_size s at = cond (eqb (byte s at) 0x81) 2 1

unfoldable pub length_at : List ℕ → (at : ℕ) → ℕ
length_at s at = cond (eqb (byte s at) 0x81) (byte s (at + 1)) (byte s at)

-- THE TABLE: what a value writes to a slot, by P1 P2 and tag, and none where it fails. Slots count from 0
abbrev pub amount_at : List ℕ → (at : ℕ) → AccumulatorAmount
amount_at v at = record { 0 = pairs_value v at 6 }

-- 6 bytes, 12 digits: the value of an accumulator
unfoldable pub value_written : (slot : ℕ) → List ℕ → Option Write
value_written slot v = cond (eqb (length v) 6 && are_pairs v 0 6) (Some (Value slot (amount_at v 0))) None

-- 12 bytes, lower, upper, 12 digits each: the limits of an accumulator
unfoldable pub limits_written : (slot : ℕ) → List ℕ → Option Write
limits_written slot v =
    cond (eqb (length v) 12 && are_pairs v 0 6 && are_pairs v 6 6) (Some (AccumulatorLimits slot (amount_at v 0) (amount_at v 6))) None

-- 2 bytes, lower, upper: the limits of a counter
unfoldable pub counts_written : (slot : ℕ) → List ℕ → Option Write
counts_written slot v = cond (eqb (length v) 2) (Some (CounterLimits slot (byte v 0) (byte v 1))) None

-- one of the four tags from the first on
abbrev pub is_one_of : (first tag : ℕ) → Bool
is_one_of first tag = leb first tag && leb tag (first + 3)

unfoldable pub meaning_of : (object tag : ℕ) → List ℕ → Option Write
meaning_of object tag v =
    cond (eqb object 0xBF30 && is_one_of 0xDF01 tag) (value_written (tag - 0xDF01) v)
    (cond (eqb object 0xBF30 && is_one_of 0xDF11 tag) (limits_written (tag - 0xDF11) v)
    (cond (eqb object 0xBF35 && is_one_of 0xDF11 tag) (counts_written (tag - 0xDF11) v)
    None))

-- AN ELEMENT, with which a list begins: a tag of two bytes, a length, a value that ends within the list. A byte that is missing reads as 0, and
-- then the element does not end within the list
unfoldable pub head_size : List ℕ → ℕ
head_size s = 2 + length_size s 2

unfoldable pub element_size : List ℕ → ℕ
element_size s = head_size s + length_at s 2

unfoldable pub element_meaning : (object : ℕ) → List ℕ → Option Write
element_meaning object s =
    cond (is_length (byte s 2) && leb (element_size s) (length s))
    (meaning_of object (number s 0 2) (take (length_at s 2) (drop (head_size s) s)))
    None
