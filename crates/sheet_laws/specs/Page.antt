-- The page of a class (document 02, Ten), from the class alone: no cell is read here.
use Rattle.std.specs.Prelude.{cond, List, [], ◌∷◌, ◌++◌, ℕ, zero, suc, ◌+◌, ◌/◌, ◌%◌, eqb}
use Prim.Native.Char.{code}
use Prim.Native.String.{String, [] as ε, ◌∷◌ as ◌⊳◌}
use Rattle.hex_digits.specs.Hex.{hex_digit}
use Rattle.numerals.specs.Numeral.{numeral}
use Rattle.sheet_lines.specs.declared.Form.{Form}
use Rattle.sheet_lines.specs.declared.Form.TheVariants.{Report, Tally}
use Rattle.sheet_lines.specs.SheetLines.{padded}
use Rattle.sheet_laws.specs.Class.{Class}

-- a text's bytes
abbrev pub text : String → List ℕ
text ε = []
text (c ⊳ s) = code c ∷ text s

-- a line of texts one behind the other
abbrev pub line : List (List ℕ) → List ℕ
line [] = 10 ∷ []
line (part ∷ more) = part ++ line more

-- A NUMBER: for the board in a column, for machines its digits; and what is in front of it, for machines a space
abbrev pub shown : Form → (width n : ℕ) → List ℕ
shown Report width n = padded width n
shown Tally width n = numeral n

abbrev pub before : Form → String → List ℕ
before Report word = text word
before Tally word = text " "

-- a row: for the board where something was counted, for machines always; and what stands for all others, for the board alone
abbrev pub listed : Form → (count : ℕ) → List ℕ → List ℕ
listed Report count row = cond (eqb count 0) [] row
listed Tally count row = row

abbrev pub others : Form → List ℕ → List ℕ
others Report row = row
others Tally row = []

-- A PROFILE and how many TCs, AACs and ARQCs (kinds 0, 1 and 2); A REFUSAL and how often; A CURRENCY by its four digits, and its sum
abbrev pub profile_line : Form → (name : List ℕ) (tc aac arqc : ℕ) → List ℕ
profile_line form name tc aac arqc =
    line (text "profile " ∷ name ∷ before form " TC " ∷ shown form 8 tc ∷ before form " AAC " ∷ shown form 8 aac
    ∷ before form " ARQC " ∷ shown form 8 arqc ∷ [])

abbrev pub profile_of : Form → Class → (number : ℕ) → List ℕ
profile_of form class number =
    let tc = class.answers number 0 in
    let aac = class.answers number 1 in
    let arqc = class.answers number 2 in
    listed form (tc + aac + arqc) (profile_line form (shown form 4 number) tc aac arqc)

abbrev pub refusal_line : Form → (name : List ℕ) (count : ℕ) → List ℕ
refusal_line form name count = line (text "refusal " ∷ name ∷ text " " ∷ shown form 8 count ∷ [])

abbrev pub refusal_of : Form → Class → (number : ℕ) → List ℕ
refusal_of form class number =
    let count = class.refusals number in
    listed form count (refusal_line form (shown form 4 number) count)

abbrev pub digits : (currency : ℕ) → List ℕ
digits currency =
    hex_digit (currency / 4096 % 16) ∷ hex_digit (currency / 256 % 16) ∷ hex_digit (currency / 16 % 16) ∷ hex_digit (currency % 16) ∷ []

abbrev pub currency_of : Form → Class → (currency : ℕ) → List ℕ
currency_of form class currency = line (text "currency " ∷ digits currency ∷ text " " ∷ shown form 20 (class.sums currency) ∷ [])

-- ROWS one below the other: of numbers, so many from one on
unfoldable pub rows : (ℕ → List ℕ) → (numbers : List ℕ) → List ℕ
rows row [] = []
rows row (n ∷ more) = row n ++ rows row more

unfoldable pub from : (first count : ℕ) → List ℕ
from first zero = []
from first (suc n) = first ∷ from (first + 1) n

-- THE PAGE: how many papers were taken, the profiles, the refusals, the currencies
unfoldable pub page : Form → Class → (currencies : List ℕ) → List ℕ
page form class currencies =
    line (text "papers " ∷ shown form 4 class.taken ∷ [])
    ++ rows (profile_of form class) (from 1 124)
    ++ others form (profile_line form (text "rest") 0 0 0)
    ++ rows (refusal_of form class) (from 1 19)
    ++ others form (refusal_line form (text "rest") 0)
    ++ rows (currency_of form class) currencies
