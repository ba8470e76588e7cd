-- The sheet of a class as text (document 02, Ten): for the board, in columns and without rows of zeros, or for machines, every row.
use Rattle.std.specs.Prelude.{Bool, true, cond, not, ◌||◌, List, [], ◌∷◌, ◌++◌, ℕ, zero, suc, ◌+◌, ◌*◌, ◌-◌, ◌/◌, ◌%◌, eqb, leb, length, get_or, replicate}
use Rattle.std.proofs.lemmas.List.Edits.{sets}
use Rattle.hex_digits.specs.Hex.{hex_digit}
use Rattle.numerals.specs.Numeral.{numeral}
use Rattle.sheet_lines.specs.declared.Form.{Form}
use Rattle.sheet_lines.specs.declared.Form.TheVariants.{Report, Tally}

-- a number, and spaces in front of it up to a width; no digit is ever left out
unfoldable pub padded : (width n : ℕ) → List ℕ
padded width n = replicate (width - length (numeral n)) 32 ++ numeral n

-- the word that a line begins with, and a number, for the board in a column of 4
abbrev pub head_of : Form → (word : List ℕ) (n : ℕ) → List ℕ
head_of Report word n = word ++ padded 4 n
head_of Tally word n = word ++ padded 0 n

-- a further number: for the board a word and a column, for machines a space and the number
abbrev pub field_of : Form → (word : List ℕ) (width n : ℕ) → List ℕ
field_of Report word width n = word ++ padded width n
field_of Tally word width n = 32 ∷ [] ++ padded 0 n

-- the last one, and the line's end
unfoldable pub last_of : Form → (word : List ℕ) (width n : ℕ) → List ℕ
last_of form word width n = field_of form word width n ++ 10 ∷ []

-- "papers "
abbrev pub papers_word : List ℕ
papers_word = 112 ∷ 97 ∷ 112 ∷ 101 ∷ 114 ∷ 115 ∷ 32 ∷ []

unfoldable pub papers_line : Form → (sheet : List ℕ) → List ℕ
papers_line form sheet = head_of form papers_word (get_or sheet 0 0) ++ 10 ∷ []

-- A PROFILE: "profile ", its number; " TC ", " AAC ", " ARQC " and how many of each
abbrev pub profile_word : List ℕ
profile_word = 112 ∷ 114 ∷ 111 ∷ 102 ∷ 105 ∷ 108 ∷ 101 ∷ 32 ∷ []

unfoldable pub kinds_of : Form → (tc aac arqc : ℕ) → List ℕ
kinds_of form tc aac arqc =
    field_of form (32 ∷ 84 ∷ 67 ∷ 32 ∷ []) 8 tc
    ++ (field_of form (32 ∷ 65 ∷ 65 ∷ 67 ∷ 32 ∷ []) 8 aac ++ last_of form (32 ∷ 65 ∷ 82 ∷ 81 ∷ 67 ∷ 32 ∷ []) 8 arqc)

-- for the board a row is shown where something was counted
abbrev pub is_shown : Form → (counted : Bool) → Bool
is_shown Report counted = counted
is_shown Tally counted = true

unfoldable pub profile_row : Form → (sheet : List ℕ) (number : ℕ) → List ℕ
profile_row form sheet number =
    let tc = get_or sheet (number * 3 - 2) 0 in
    let aac = get_or sheet (number * 3 - 1) 0 in
    let arqc = get_or sheet (number * 3) 0 in
    cond (is_shown form (not (eqb tc 0) || not (eqb aac 0) || not (eqb arqc 0))) (head_of form profile_word number ++ kinds_of form tc aac arqc) []

-- and behind all of them that every other number has 0: "profile rest"
abbrev pub profile_rest_word : List ℕ
profile_rest_word = 112 ∷ 114 ∷ 111 ∷ 102 ∷ 105 ∷ 108 ∷ 101 ∷ 32 ∷ 114 ∷ 101 ∷ 115 ∷ 116 ∷ []

unfoldable pub profile_rest : Form → List ℕ
profile_rest Report = profile_rest_word ++ kinds_of Report 0 0 0
profile_rest Tally = []

-- A REFUSAL: "refusal ", its number, and how often it was given; "refusal rest"
abbrev pub refusal_word : List ℕ
refusal_word = 114 ∷ 101 ∷ 102 ∷ 117 ∷ 115 ∷ 97 ∷ 108 ∷ 32 ∷ []

unfoldable pub refusal_row : Form → (sheet : List ℕ) (number : ℕ) → List ℕ
refusal_row form sheet number =
    let count = get_or sheet (373 + number) 0 in
    cond (is_shown form (not (eqb count 0))) (head_of form refusal_word number ++ last_of form (32 ∷ []) 8 count) []

abbrev pub refusal_rest_word : List ℕ
refusal_rest_word = 114 ∷ 101 ∷ 102 ∷ 117 ∷ 115 ∷ 97 ∷ 108 ∷ 32 ∷ 114 ∷ 101 ∷ 115 ∷ 116 ∷ []

unfoldable pub refusal_rest : Form → List ℕ
refusal_rest Report = refusal_rest_word ++ last_of Report (32 ∷ []) 8 0
refusal_rest Tally = []

-- A CURRENCY: "currency ", its four digits, and the sum
abbrev pub currency_word : List ℕ
currency_word = 99 ∷ 117 ∷ 114 ∷ 114 ∷ 101 ∷ 110 ∷ 99 ∷ 121 ∷ 32 ∷ []

abbrev pub code_digits : (code : ℕ) → List ℕ
code_digits code =
    let high = code / 256 % 256 in
    let low = code % 256 in
    hex_digit (high / 16) ∷ hex_digit (high % 16) ∷ hex_digit (low / 16) ∷ hex_digit (low % 16) ∷ []

unfoldable pub code_of : (code : ℕ) → List ℕ
code_of code = currency_word ++ code_digits code

unfoldable pub currency_row : Form → (sheet : List ℕ) (place : ℕ) → List ℕ
currency_row form sheet place =
    cond (leb (get_or sheet 393 0) place) [] (code_of (get_or sheet (394 + place) 0) ++ last_of form (32 ∷ []) 20 (get_or sheet (426 + place) 0))

-- THE WHOLE SHEET: the papers, profiles 1 to 124 and the rest, refusals 1 to 19 and the rest, the currencies
unfoldable pub line_at : Form → (sheet : List ℕ) (line : ℕ) → List ℕ
line_at form sheet line =
    cond (eqb line 0) (papers_line form sheet)
    (cond (leb line 124) (profile_row form sheet line)
    (cond (eqb line 125) (profile_rest form)
    (cond (leb line 144) (refusal_row form sheet (line - 125))
    (cond (eqb line 145) (refusal_rest form) (currency_row form sheet (line - 146))))))

unfoldable pub first_lines : ℕ → Form → (sheet : List ℕ) → List ℕ
first_lines zero form sheet = []
first_lines (suc n) form sheet = first_lines n form sheet ++ line_at form sheet n

unfoldable pub sheet_text : Form → (sheet : List ℕ) → List ℕ
sheet_text form sheet = first_lines 178 form sheet

-- it stands in the room from a place on, and all else stays; where the longest would not fit all stays
abbrev pub longest : ℕ
longest = 19_602

unfoldable pub sheet_placed : (room : List ℕ) (at : ℕ) → Form → (sheet : List ℕ) → List ℕ
sheet_placed room at form sheet = cond (leb (at + longest) (length room)) (sets room at (sheet_text form sheet)) room

unfoldable pub sheet_behind : (bytes at : ℕ) → Form → (sheet : List ℕ) → ℕ
sheet_behind bytes at form sheet = cond (leb (at + longest) bytes) (at + length (sheet_text form sheet)) at

-- A PAPER THAT IS REFUSED: "refused ", the refusal, " paper " and its number in the stack
abbrev pub refused_word : List ℕ
refused_word = 114 ∷ 101 ∷ 102 ∷ 117 ∷ 115 ∷ 101 ∷ 100 ∷ 32 ∷ []

unfoldable pub refused_line : Form → (refusal paper : ℕ) → List ℕ
refused_line form refusal paper = (refused_word ++ padded 0 refusal) ++ last_of form (32 ∷ 112 ∷ 97 ∷ 112 ∷ 101 ∷ 114 ∷ 32 ∷ []) 20 paper

abbrev pub longest_refused : ℕ
longest_refused = 78

unfoldable pub refused_placed : (room : List ℕ) (at : ℕ) → Form → (refusal paper : ℕ) → List ℕ
refused_placed room at form refusal paper = cond (leb (at + longest_refused) (length room)) (sets room at (refused_line form refusal paper)) room

unfoldable pub refused_behind : (bytes at : ℕ) → Form → (refusal paper : ℕ) → ℕ
refused_behind bytes at form refusal paper = cond (leb (at + longest_refused) bytes) (at + length (refused_line form refusal paper)) at
