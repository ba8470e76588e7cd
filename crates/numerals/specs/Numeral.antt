-- Numbers in decimal, and the room that they are placed in.
use Rattle.std.specs.Prelude.{cond, List, [], ◌∷◌, ◌++◌, ℕ, zero, suc, ◌+◌, ◌/◌, ◌%◌, ltb, leb, length}
use Rattle.std.proofs.lemmas.List.Edits.{sets}

-- a number of so many digits at most: those of its tenth and the last one; no zero in front, and 0 is "0"
unfoldable pub digits_of : (most n : ℕ) → List ℕ
digits_of zero n = []
digits_of (suc most) n = cond (ltb n 10) [] (digits_of most (n / 10)) ++ (48 + n % 10) ∷ []

-- a number below 10 ^ 20, as every u64 is
abbrev pub longest : ℕ
longest = 20

unfoldable pub numeral : ℕ → List ℕ
numeral n = digits_of longest n

-- the room after it: from the place on it holds the digits, and all else stays; where the longest would not fit all stays
unfoldable pub number_placed : (room : List ℕ) (at n : ℕ) → List ℕ
number_placed room at n = cond (leb (at + longest) (length room)) (sets room at (numeral n)) room

-- the place behind it in a room of some bytes, or the same place
unfoldable pub number_behind : (bytes at n : ℕ) → ℕ
number_behind bytes at n = cond (leb (at + longest) bytes) (at + length (numeral n)) at

-- the same of a number and the mark behind it
abbrev pub field : (n mark : ℕ) → List ℕ
field n mark = numeral n ++ mark ∷ []

abbrev pub longest_field : ℕ
longest_field = 21

unfoldable pub field_placed : (room : List ℕ) (at n mark : ℕ) → List ℕ
field_placed room at n mark = cond (leb (at + longest_field) (length room)) (sets room at (field n mark)) room

unfoldable pub field_behind : (bytes at n mark : ℕ) → ℕ
field_behind bytes at n mark = cond (leb (at + longest_field) bytes) (at + length (field n mark)) at
