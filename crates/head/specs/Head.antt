-- The head of the object with which s begins (EMV Book 3 Annex B): its tag and its length.
use Rattle.std.specs.Prelude.{ℕ, ◌+◌, ◌*◌, ◌/◌, ◌%◌, List, Bool, ◌&&◌, ◌||◌, not, cond, length, ltb, leb, eqb, None, Option, Some}
use Rattle.wire.specs.Wire.{byte}
use Rattle.head.specs.declared.Head.{Head}

-- the tag: two bytes where the low five bits of the first are all ones, else one
abbrev pub tag_size : List ℕ → ℕ
tag_size s = cond (eqb (byte s 0 % 32) 31) 2 1

-- a second byte of 80 or more would announce a third
abbrev pub tag_right : List ℕ → Bool
tag_right s = not (eqb (byte s 0 % 32) 31) || ltb (byte s 1) 0x80

-- a length at a place, by its first byte: 00 to 7F alone, or 81 and one byte, or 82 and two
abbrev pub length_right : ℕ → Bool
length_right b = ltb b 0x80 || eqb b 0x81 || eqb b 0x82

unfoldable pub length_size : ℕ → ℕ
length_size b = cond (eqb b 0x82) 3 (cond (eqb b 0x81) 2 1)

unfoldable pub length_at : List ℕ → (at : ℕ) → ℕ
length_at s at =
    cond (eqb (byte s at) 0x82) (byte s (at + 1) * 256 + byte s (at + 2))
    (cond (eqb (byte s at) 0x81) (byte s (at + 1)) (byte s at))

-- it stands behind the tag
abbrev pub lead : List ℕ → ℕ
lead s = byte s (tag_size s)

unfoldable pub head_size : List ℕ → ℕ
head_size s = tag_size s + length_size (lead s)

unfoldable pub value_size : List ℕ → ℕ
value_size s = length_at s (tag_size s)

abbrev pub object_size : List ℕ → ℕ
object_size s = head_size s + value_size s

unfoldable pub head_formed : List ℕ → Bool
head_formed s = tag_right s && length_right (lead s)

-- the value ends within s; a byte that the head lacks reads as 00, and then it does not
unfoldable pub head_right : List ℕ → Bool
head_right s = head_formed s && leb (object_size s) (length s)

unfoldable pub head_of : List ℕ → Option Head
head_of s = cond (head_right s) (Some (record { size = head_size s; length = value_size s })) None

-- the same of a head by its two sizes, and of one whose tag is right and whose length stands at a place
abbrev pub head_within : List ℕ → (size length : ℕ) → Option Head
head_within s m n = cond (leb (m + n) (length s)) (Some (record { size = m; length = n })) None

abbrev pub head_behind : List ℕ → (at : ℕ) → Option Head
head_behind s at = cond (length_right (byte s at)) (head_within s (at + length_size (byte s at)) (length_at s at)) None

-- bit 6 of a tag's first byte
abbrev pub is_constructed : ℕ → Bool
is_constructed b = eqb (b / 32 % 2) 1
