-- What is printed of a sheet is the page of the class that it says: each number stands beside the words of what it counts. Assumes nothing.
use mathlib.Core.Path.{◌≡◌, refl, sym, ap, ap₂, ◌∙◌}
use mathlib.Core.Bool.{Bool, true, false, cond, not, ◌||◌}
use mathlib.Core.List.{List, [], ◌∷◌, ◌++◌, append-nil, append_assoc}
use Prim.Native.Nat.{ℕ, zero, suc, ◌+◌, ◌*◌, ◌-◌, ◌/◌, ◌%◌, ◌≤◌, ◌<◌}
use native.Mathlib.Nat.{add-zero}
use native.Mathlib.Omega.{arith}
use borrow.Author.Tests.{le-leb, lt-leb, ne_eqb}
use lib.Dec.{eqb}
use lib.ListN.{length, get_or, replicate}
use Rattle.numerals.specs.Numeral.{numeral}
use Rattle.sheet.specs.Sheet.{answer_cell}
use Rattle.sheet_lines.specs.declared.Form.{Form}
use Rattle.sheet_lines.specs.declared.Form.TheVariants.{Report, Tally}
use Rattle.sheet_lines.specs.SheetLines.{padded, head_of, last_of, papers_word, papers_line, profile_word, kinds_of, is_shown, profile_row, profile_rest}
use Rattle.sheet_lines.specs.SheetLines.{refusal_word, refusal_row, refusal_rest, currency_word, code_digits, code_of, currency_row, line_at, first_lines, sheet_text}
use Rattle.sheet_laws.specs.Class.{Class, Lists, Says}
use Rattle.sheet_laws.specs.Page.{text, line, shown, listed, others, profile_line, profile_of, refusal_line, refusal_of, digits, currency_of, rows, from, page}
use Rattle.sheet_laws.proofs.Listing.{same_lists}

-- ---- rows as the lines of a sheet

from-size : (first count : ℕ) → length (from first count) ≡ count
unfolding from
from-size first zero = refl
from-size first (suc n) = ap suc (from-size (first + 1) n)

from_at : (first count i : ℕ) → i < count → get_or (from first count) i 0 ≡ first + i
unfolding from
from_at first zero i l = absurd (let z : ⊥ = omega arith in z)
from_at first (suc n) zero l = omega arith
from_at first (suc n) (suc i) l = from_at (first + 1) n i (omega arith) ∙ omega arith

module _ (form : Form) (sheet : List ℕ) where
  abbrev lines : ℕ → List ℕ
  lines n = first_lines n form sheet

  step : (n : ℕ) → lines (suc n) ≡ lines n ++ line_at form sheet n
  unfolding first_lines
  step n = refl

  -- lines from one on that are the rows of these numbers
  then_rows : (row : ℕ → List ℕ) (numbers : List ℕ) (at : ℕ) → ((i : ℕ) → i < length numbers → line_at form sheet (at + i) ≡ row (get_or numbers i 0))
      → lines (at + length numbers) ≡ lines at ++ rows row numbers
  unfolding first_lines rows
  then_rows row [] at same = ap lines (add-zero at) ∙ sym (append-nil (lines at))
  then_rows row (n ∷ more) at same =
      ap lines (let z : at + suc (length more) ≡ suc at + length more = omega arith in z)
      ∙ then_rows row more (suc at)
      (λ i l. ap (line_at form sheet) (let z : suc at + i ≡ at + suc i = omega arith in z) ∙ same (suc i) (omega arith))
      ∙ ap (λ l. (lines at ++ l) ++ rows row more) (ap (line_at form sheet) (sym (add-zero at)) ∙ same 0 (omega arith))
      ∙ append_assoc (lines at) (row n) (rows row more)

  -- lines that are empty
  then_none : (count at : ℕ) → ((i : ℕ) → i < count → line_at form sheet (at + i) ≡ []) → lines (at + count) ≡ lines at
  unfolding first_lines
  then_none zero at none = ap lines (add-zero at)
  then_none (suc n) at none =
      ap lines (let z : at + suc n ≡ suc at + n = omega arith in z)
      ∙ then_none n (suc at) (λ i l. ap (line_at form sheet) (let z : suc at + i ≡ at + suc i = omega arith in z) ∙ none (suc i) (omega arith))
      ∙ ap (λ l. lines at ++ l) (ap (line_at form sheet) (sym (add-zero at)) ∙ none 0 (omega arith))
      ∙ append-nil (lines at)

  -- which line is which
  profile-line : (n : ℕ) → 1 ≤ n → n ≤ 124 → line_at form sheet n ≡ profile_row form sheet n
  unfolding line_at
  profile-line n low high = rw (ne_eqb n 0 (λ e. omega arith), le-leb n 124 high)

  refusal_line_lem : (n : ℕ) → 1 ≤ n → n ≤ 19 → line_at form sheet (125 + n) ≡ refusal_row form sheet n
  unfolding line_at
  refusal_line_lem n low high =
      rw (
        ne_eqb (125 + n) 0 (λ e. omega arith),
        lt-leb (125 + n) 124 (omega arith),
        ne_eqb (125 + n) 125 (λ e. omega arith),
        le-leb (125 + n) 144 (omega arith),
      )
      (ap (refusal_row form sheet) (let z : 125 + n - 125 ≡ n = omega arith in z))

  currency-line : (place : ℕ) → line_at form sheet (146 + place) ≡ currency_row form sheet place
  unfolding line_at
  currency-line place =
      rw (
        ne_eqb (146 + place) 0 (λ e. omega arith),
        lt-leb (146 + place) 124 (omega arith),
        ne_eqb (146 + place) 125 (λ e. omega arith),
        lt-leb (146 + place) 144 (omega arith),
        ne_eqb (146 + place) 145 (λ e. omega arith),
      )
      (ap (currency_row form sheet) (let z : 146 + place - 146 ≡ place = omega arith in z))

-- ---- numbers beside their words

no_column : (n : ℕ) → padded 0 n ≡ numeral n
unfolding padded
no_column n = ap (λ k. replicate k 32 ++ numeral n) (let z : 0 - length (numeral n) ≡ 0 = omega arith in z)

profile-text : (form : Form) (n tc aac arqc : ℕ)
    → head_of form profile_word n ++ kinds_of form tc aac arqc ≡ profile_line form (shown form 4 n) tc aac arqc
unfolding kinds_of last_of
profile-text Report n tc aac arqc = refl
profile-text Tally n tc aac arqc = rw (no_column n, no_column tc, no_column aac, no_column arqc)

refusal_text : (form : Form) (n count : ℕ) → head_of form refusal_word n ++ last_of form (32 ∷ []) 8 count ≡ refusal_line form (shown form 4 n) count
unfolding last_of
refusal_text Report n count = refl
refusal_text Tally n count = rw (no_column n, no_column count)

four-digits : (code : ℕ) → code_digits code ≡ digits code
four-digits code =
    let a : code / 256 % 256 / 16 ≡ code / 4096 % 16 = omega arith in
    let b : code / 256 % 256 % 16 ≡ code / 256 % 16 = omega arith in
    let c : code % 256 / 16 ≡ code / 16 % 16 = omega arith in
    let d : code % 256 % 16 ≡ code % 16 = omega arith in
    rw (a, b, c, d)

currency-text : (form : Form) (code sum : ℕ)
    → code_of code ++ last_of form (32 ∷ []) 20 sum ≡ line (text "currency " ∷ digits code ∷ text " " ∷ shown form 20 sum ∷ [])
unfolding code_of last_of
currency-text form code sum = ap (λ l. (currency_word ++ l) ++ last_of form (32 ∷ []) 20 sum) (four-digits code) ∙ by form where
  by : (form : Form) → (currency_word ++ digits code) ++ last_of form (32 ∷ []) 20 sum ≡ line (text "currency " ∷ digits code ∷ text " " ∷ shown form 20 sum ∷ [])
  by Report = refl
  by Tally = rw (no_column sum)

papers-text : (form : Form) (n : ℕ) → [] ++ (head_of form papers_word n ++ 10 ∷ []) ≡ line (text "papers " ∷ shown form 4 n ∷ [])
papers-text Report n = refl
papers-text Tally n = rw (no_column n)

profile-rest : (form : Form) (sheet : List ℕ) → line_at form sheet 125 ≡ others form (profile_line form (text "rest") 0 0 0)
unfolding line_at profile_rest kinds_of last_of
profile-rest Report sheet = refl
profile-rest Tally sheet = refl

refusal_rest_lem : (form : Form) (sheet : List ℕ) → line_at form sheet 145 ≡ others form (refusal_line form (text "rest") 0)
unfolding line_at refusal_rest last_of
refusal_rest_lem Report sheet = refl
refusal_rest_lem Tally sheet = refl

-- a row is shown, or not
turned : {A : Type 0} (b : Bool) (x y : A) → cond (not b) x y ≡ cond b y x
turned true x y = refl
turned false x y = refl

some-counted : (a b c : ℕ) → not (eqb a 0) || not (eqb b 0) || not (eqb c 0) ≡ not (eqb (a + b + c) 0)
some-counted zero zero zero = refl
some-counted zero zero (suc c) = rw (ne_eqb (suc c) 0 (λ e. omega arith), ne_eqb (0 + 0 + suc c) 0 (λ e. omega arith))
some-counted zero (suc b) c = rw (ne_eqb (suc b) 0 (λ e. omega arith), ne_eqb (0 + suc b + c) 0 (λ e. omega arith))
some-counted (suc a) b c = rw (ne_eqb (suc a) 0 (λ e. omega arith), ne_eqb (suc a + b + c) 0 (λ e. omega arith))

row_listed : (form : Form) (counted : Bool) (count : ℕ) {row line : List ℕ} → counted ≡ not (eqb count 0) → row ≡ line
    → cond (is_shown form counted) row [] ≡ listed form count line
row_listed Report counted count {row} {line} e same = ap₂ (λ b l. cond b l []) e same ∙ turned (eqb count 0) line []
row_listed Tally counted count e same = same

-- ---- THE PAGE

module _ {class : Class} {sheet : List ℕ} (s : Says class sheet) (form : Form) where
  profile-row : (n : ℕ) → 1 ≤ n → n ≤ 124 → profile_row form sheet n ≡ profile_of form class n
  unfolding profile_row
  profile-row n low high = by (count 0 (n * 3 - 2) (omega arith) (omega arith)) (count 1 (n * 3 - 1) (omega arith) (omega arith)) (count 2 (n * 3) (omega arith) (omega arith)) where
    count : (kind cell : ℕ) → kind ≤ 2 → cell ≡ answer_cell n kind → get_or sheet cell 0 ≡ class.answers n kind
    count kind cell k e = ap (λ i. get_or sheet i 0) e ∙ s.answers-are n kind low high k

    by : {tc aac arqc : ℕ} → tc ≡ class.answers n 0 → aac ≡ class.answers n 1 → arqc ≡ class.answers n 2
        → cond (is_shown form (not (eqb tc 0) || not (eqb aac 0) || not (eqb arqc 0))) (head_of form profile_word n ++ kinds_of form tc aac arqc) []
        ≡ profile_of form class n
    by e f g =
        rw (e, f, g)
        (row_listed form _ _ (some-counted (class.answers n 0) (class.answers n 1) (class.answers n 2))
        (profile-text form n (class.answers n 0) (class.answers n 1) (class.answers n 2)))

  refusal_row_lem : (n : ℕ) → 1 ≤ n → n ≤ 19 → refusal_row form sheet n ≡ refusal_of form class n
  unfolding refusal_row
  refusal_row_lem n low high = rw (s.refusals-are n low high) (row_listed form _ _ refl (refusal_text form n (class.refusals n)))

  currency-row : (place : ℕ) → place < length s.currencies → currency_row form sheet place ≡ currency_of form class (get_or s.currencies place 0)
  unfolding currency_row
  currency-row place l =
      rw (s.count-is, lt-leb (length s.currencies) place l, s.codes-are place l, s.sums-are place l)
      (currency-text form (get_or s.currencies place 0) (class.sums (get_or s.currencies place 0)))

  no_currency : (place : ℕ) → length s.currencies ≤ place → currency_row form sheet place ≡ []
  unfolding currency_row
  no_currency place l = rw (s.count-is, le-leb (length s.currencies) place l)

  -- part by part
  abbrev up_to : ℕ → List ℕ
  up_to n = first_lines n form sheet

  papers-first : up_to 1 ≡ line (text "papers " ∷ shown form 4 class.taken ∷ [])
  unfolding first_lines line_at papers_line
  papers-first = rw s.taken_is (papers-text form class.taken)

  profiles : up_to 125 ≡ up_to 1 ++ rows (profile_of form class) (from 1 124)
  profiles =
      ap (λ n. up_to (1 + n)) (sym (from-size 1 124))
      ∙ then_rows form sheet (profile_of form class) (from 1 124) 1 (λ i l. there i (omega (arith, from-size 1 124)))
    where
      there : (i : ℕ) → i < 124 → line_at form sheet (1 + i) ≡ profile_of form class (get_or (from 1 124) i 0)
      there i l =
          profile-line form sheet (1 + i) (omega arith) (omega arith)
          ∙ profile-row (1 + i) (omega arith) (omega arith)
          ∙ ap (profile_of form class) (sym (from_at 1 124 i l))

  refusals : up_to 145 ≡ up_to 126 ++ rows (refusal_of form class) (from 1 19)
  refusals =
      ap (λ n. up_to (126 + n)) (sym (from-size 1 19))
      ∙ then_rows form sheet (refusal_of form class) (from 1 19) 126 (λ i l. there i (omega (arith, from-size 1 19)))
    where
      there : (i : ℕ) → i < 19 → line_at form sheet (126 + i) ≡ refusal_of form class (get_or (from 1 19) i 0)
      there i l =
          ap (line_at form sheet) (let z : 126 + i ≡ 125 + (1 + i) = omega arith in z)
          ∙ refusal_line_lem form sheet (1 + i) (omega arith) (omega arith)
          ∙ refusal_row_lem (1 + i) (omega arith) (omega arith)
          ∙ ap (refusal_of form class) (sym (from_at 1 19 i l))

  currencies-last : up_to 178 ≡ up_to 146 ++ rows (currency_of form class) s.currencies
  currencies-last =
      let many = length s.currencies in
      ap up_to (let z : 178 ≡ 146 + many + (32 - many) = omega (arith, s.few) in z)
      ∙ then_none form sheet (32 - many) (146 + many)
      (λ i l. ap (line_at form sheet) (let z : 146 + many + i ≡ 146 + (many + i) = omega arith in z)
      ∙ currency-line form sheet (many + i) ∙ no_currency (many + i) (omega arith))
      ∙ then_rows form sheet (currency_of form class) s.currencies 146 (λ i l. currency-line form sheet i ∙ currency-row i l)

  -- ALL LINES of a sheet that says a class are its page
  pub printed-page : (currencies : List ℕ) → Lists class currencies → sheet_text form sheet ≡ page form class currencies
  unfolding sheet_text page
  printed-page currencies l =
      let same = same_lists s.currencies currencies s.listed.ascending l.ascending (λ c. s.listed.exactly c ∙ sym (l.exactly c)) in
      let front = profiles ∙ ap (λ t. t ++ rows (profile_of form class) (from 1 124)) papers-first in
      let middle = step form sheet 125 ∙ ap₂ ◌++◌ front (profile-rest form sheet) in
      let back = refusals ∙ ap (λ t. t ++ rows (refusal_of form class) (from 1 19)) middle in
      currencies-last ∙ ap₂ (λ t c. t ++ rows (currency_of form class) c) (step form sheet 145 ∙ ap₂ ◌++◌ back (refusal_rest_lem form sheet)) same
