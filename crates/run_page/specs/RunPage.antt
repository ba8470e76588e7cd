-- The page of a run (request Eleven): what became of it, and the room that was lent.
use Rattle.std.specs.Prelude.{Bool, cond, ◌||◌, List, [], ◌∷◌, ◌++◌, ℕ, zero, suc, ◌+◌, ◌*◌, ◌%◌, eqb, leb, length, get_or, Err, Ok, Result}
use Rattle.std.proofs.lemmas.List.Edits.{sets}
use Rattle.refusal.specs.Refusal.{refusal_number}
use Rattle.hex_digits.specs.Hex.{hex_byte}
use Rattle.text.specs.Text.{line}
use Rattle.numerals.specs.Numeral.{numeral}
use Rattle.refusal.specs.declared.Refusal.{Refusal}

-- "run", the refusal, and the number of answers, which is 0 where it is refused
abbrev pub refusal_in : Result ℕ Refusal → ℕ
refusal_in (Ok answers) = 0
refusal_in (Err refusal) = refusal_number refusal

abbrev pub answers_in : Result ℕ Refusal → ℕ
answers_in (Ok answers) = answers
answers_in (Err refusal) = 0

abbrev pub word : List ℕ
word = 114 ∷ 117 ∷ 110 ∷ []

unfoldable pub ran_line : Result ℕ Refusal → List ℕ
ran_line ran = line word (numeral (refusal_in ran) ∷ numeral (answers_in ran) ∷ [])

-- then the whole room in hex, 36 bytes to a line: a line feed stands behind each thirty-sixth byte, and behind the last
abbrev pub feed : (last : Bool) → List ℕ
feed last = cond last (10 ∷ []) []

unfoldable pub hex_first : ℕ → (room : List ℕ) → List ℕ
hex_first zero room = []
hex_first (suc n) room =
    hex_first n room ++ (hex_byte (get_or room n 0) ++ feed (eqb ((n + 1) % 36) 0 || eqb (n + 1) (length room)))

unfoldable pub hex_lines : (room : List ℕ) → List ℕ
hex_lines room = hex_first (length room) room

unfoldable pub page_of : Result ℕ Refusal → (room : List ℕ) → List ℕ
page_of ran room = ran_line ran ++ hex_lines room

-- the most bytes that it may have: 4 + 20 + 1 + 20 + 1, and 3 for each byte of the room
abbrev pub page_size : (room : ℕ) → ℕ
page_size room = 46 + 3 * room

-- it stands at the front of a text of some bytes, and all else stays; where the longest would not fit all stays
unfoldable pub page_text : (text : List ℕ) → Result ℕ Refusal → (room : List ℕ) → List ℕ
page_text text ran room = cond (leb (page_size (length room)) (length text)) (sets text 0 (page_of ran room)) text

unfoldable pub page_end : (bytes : ℕ) → Result ℕ Refusal → (room : List ℕ) → ℕ
page_end bytes ran room = cond (leb (page_size (length room)) bytes) (length (page_of ran room)) 0
