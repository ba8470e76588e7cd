-- What the text of a line says: its words, and the fields that they write (document 01, "A sitting in full"; docs/PAPERS.md, "Lines").
use Rattle.std.specs.Prelude.{Bool, true, false, not, cond, ◌&&◌, ◌||◌, List, [], ◌∷◌, ℕ, ◌+◌, ◌*◌, ◌-◌, ◌^◌, leb, eqb, length}

-- ---- the words of a line: one space (32) between two, the line feed (10) behind the last and nowhere else

pub data Line : Type 0 where
  Words : List (List ℕ) → Line
  NoLine : Line

-- a byte in front of the first word
abbrev pub grown : ℕ → Line → Line
grown c (Words (w ∷ ws)) = Words ((c ∷ w) ∷ ws)
grown c (Words []) = NoLine
grown c NoLine = NoLine

-- a space in front of the first word: the word before it ends here
abbrev pub spaced : Line → Line
spaced (Words ws) = Words ([] ∷ ws)
spaced NoLine = NoLine

-- a line feed: the last word ends here, and so does the text
abbrev pub closed : List ℕ → Line
closed [] = Words ([] ∷ [])
closed (c ∷ s) = NoLine

unfoldable pub words_in : List ℕ → Line
words_in [] = NoLine
words_in (c ∷ s) = cond (eqb c 10) (closed s) (cond (eqb c 32) (spaced (words_in s)) (grown c (words_in s)))

-- ---- a word in decimal: digits "0" (48) to "9" (57), at least one, no zero in front of another

abbrev pub is_digit : ℕ → Bool
is_digit d = leb 48 d && leb d 57

unfoldable pub are_digits : List ℕ → Bool
are_digits [] = true
are_digits (d ∷ s) = is_digit d && are_digits s

abbrev pub is_unpadded : List ℕ → Bool
is_unpadded [] = false
is_unpadded (d ∷ []) = true
is_unpadded (d ∷ e ∷ s) = not (eqb d 48)

abbrev pub is_decimal : List ℕ → Bool
is_decimal w = are_digits w && is_unpadded w

-- each digit by its place
unfoldable pub value_in : List ℕ → ℕ
value_in [] = 0
value_in (d ∷ s) = (d - 48) * 10 ^ length s + value_in s

-- ---- a word in hex: two digits to a byte, "0" to "9" and "A" (65) to "F" (70)

abbrev pub is_hex_digit : ℕ → Bool
is_hex_digit d = is_digit d || (leb 65 d && leb d 70)

abbrev pub hex_value : ℕ → ℕ
hex_value d = cond (leb d 57) (d - 48) (d - 65 + 10)

unfoldable pub is_hex : List ℕ → Bool
is_hex [] = true
is_hex (h ∷ []) = false
is_hex (h ∷ l ∷ s) = is_hex_digit h && is_hex_digit l && is_hex s

unfoldable pub bytes_in : List ℕ → List ℕ
bytes_in [] = []
bytes_in (h ∷ []) = []
bytes_in (h ∷ l ∷ s) = (hex_value h * 16 + hex_value l) ∷ bytes_in s

-- ---- the fields, by how many there are

pub data Fields : Type 0 where
  -- record number, refusal
  Two : ℕ → ℕ → Fields
  -- record number, refusal, ATC
  Three : ℕ → ℕ → ℕ → Fields
  -- record number, refusal, ATC, entries visited
  Four : ℕ → ℕ → ℕ → ℕ → Fields
  -- record number, refusal, CID, ATC, IAD
  Five : ℕ → ℕ → List ℕ → ℕ → List ℕ → Fields
  Other : Fields

abbrev pub fields_of : Line → Fields
fields_of NoLine = Other
fields_of (Words []) = Other
fields_of (Words (n ∷ [])) = Other
fields_of (Words (n ∷ r ∷ [])) = cond (is_decimal n && is_decimal r) (Two (value_in n) (value_in r)) Other
fields_of (Words (n ∷ r ∷ a ∷ [])) =
    cond (is_decimal n && is_decimal r && is_decimal a) (Three (value_in n) (value_in r) (value_in a)) Other
fields_of (Words (n ∷ r ∷ a ∷ v ∷ [])) =
    cond (is_decimal n && is_decimal r && is_decimal a && is_decimal v) (Four (value_in n) (value_in r) (value_in a) (value_in v)) Other
fields_of (Words (n ∷ r ∷ c ∷ a ∷ i ∷ [])) =
    cond (is_decimal n && is_decimal r && is_hex c && is_decimal a && is_hex i)
    (Five (value_in n) (value_in r) (bytes_in c) (value_in a) (bytes_in i))
    Other
fields_of (Words (n ∷ r ∷ c ∷ a ∷ i ∷ w ∷ ws)) = Other

unfoldable pub fields_in : List ℕ → Fields
fields_in text = fields_of (words_in text)
