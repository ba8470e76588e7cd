-- A class, its sheet and its page by computation; and two papers of which the second is refused in either order. Assumes nothing.
use mathlib.Core.Path.{◌≡◌, refl, ◌∙◌}
use mathlib.Core.Bool.{Bool, true, false, not, ◌&&◌}
use mathlib.Core.List.{List, [], ◌∷◌, ◌++◌}
use Prim.Native.Nat.{ℕ, zero, suc, ◌+◌}
use Prim.Native.String.{String}
use lib.Dec.{T, eqb, leb}
use lib.ListN.{length, get_or, set}
use Rattle.numerals.specs.Numeral.{digits_of, numeral}
use Rattle.sheet.specs.Sheet.{blank_sheet, papers, counted, answer_counted, refusal_counted}
use Rattle.sums.specs.Sums.{sold, count_cell, code_cell, sum_cell, most, sums_of, sums_from, with_sums, written, fits_sale, sale_added}
use Rattle.tallies.specs.Tallies.{Tally, answered, refused, approved, all_tallied, all_fit}
use Rattle.sheet_lines.specs.declared.Form.TheVariants.{Report, Tally as Machines}
use Rattle.sheet_lines.specs.SheetLines.{padded, last_of, kinds_of, papers_line, profile_row, profile_rest, refusal_row, refusal_rest, code_of}
use Rattle.sheet_lines.specs.SheetLines.{currency_row, line_at, first_lines, sheet_text}
use Rattle.sheet_laws.specs.Class.{answers_of, refusals_of, sales_of, amounts_of, total, joined}
use Rattle.sheet_laws.specs.Page.{text}
use Rattle.sheet_laws.proofs.Listing.{codes}
use Rattle.sheet_laws.proofs.Sold.{sold_all}
use Rattle.sheet_laws.proofs.Kept.{blank-kept, all-kept, all_fit_lem}

-- THE PAGE'S PRINTED SITTING, then a paper that ends in 9 with a TC of 0 in 0840, a Z3 approval of 700 in 0978, an online approval of 50 in 0392 and
-- a refusal 3, then an empty paper
abbrev sitting : List Tally
sitting =
    answered 1 0
    ∷ approved 0x0978 5000
    ∷ answered 1 2
    ∷ answered 1 0
    ∷ approved 0x0978 1
    ∷ answered 1 1
    ∷ refused 2
    ∷ []

abbrev second : List Tally
second =
    answered 7 0
    ∷ approved 0x0840 0
    ∷ answered 3 2
    ∷ answered 3 0
    ∷ approved 0x0978 700
    ∷ answered 3 2
    ∷ answered 3 0
    ∷ refused 3
    ∷ refused 9
    ∷ []

abbrev class : List (List Tally)
class = sitting ∷ second ∷ (refused 9 ∷ []) ∷ []

-- the sheet that holds it, three papers taken
abbrev sheet : List ℕ
sheet = set (all_tallied blank_sheet (joined class)) papers 3

-- and as the board has it
abbrev lines : List String → List ℕ
lines [] = []
lines (s ∷ more) = text s ++ 10 ∷ lines more

abbrev board : List ℕ
board =
    lines
    ("papers    3"
    ∷ "profile    1 TC        2 AAC        1 ARQC        1"
    ∷ "profile    3 TC        2 AAC        0 ARQC        2"
    ∷ "profile    7 TC        1 AAC        0 ARQC        0"
    ∷ "profile rest TC        0 AAC        0 ARQC        0"
    ∷ "refusal    2        1"
    ∷ "refusal    3        1"
    ∷ "refusal    9        2"
    ∷ "refusal rest        0"
    ∷ "currency 0840                    0"
    ∷ "currency 0978                 5701"
    ∷ [])

abbrev same : List ℕ → List ℕ → Bool
same [] [] = true
same [] (n ∷ more) = false
same (m ∷ more) [] = false
same (m ∷ more) (n ∷ others) = eqb m n && same more others

unfoldable pub sum : (of : Tally → ℕ) → ℕ
sum of = total of (joined class)

unfoldable pub cell : (at : ℕ) → ℕ
cell at = get_or sheet at 0

pub record Samples : Type 0 where
  -- what the class comes to: an approval of 0 is one too, an online one is none
  pub tcs_of_1 : T (eqb (sum (answers_of 1 0)) 2)
  pub arqcs_of_3 : T (eqb (sum (answers_of 3 2)) 2)
  pub nines : T (eqb (sum (refusals_of 9)) 2)
  pub approved_0978 : T (eqb (sum (amounts_of 0x0978)) 5701)
  pub sales_0840 : T (eqb (sum (sales_of 0x0840)) 1)
  pub sales_0392 : T (eqb (sum (sales_of 0x0392)) 0)
  -- its currencies ascend, as they did not come
  pub ascending : T (same (codes (sold_all (joined class) [])) (0x0840 ∷ 0x0978 ∷ []))
  -- the cells say so
  pub two-currencies : T (eqb (cell count_cell) 2)
  pub first_code : T (eqb (cell (code_cell 0)) 0x0840)
  pub second_sum : T (eqb (cell (sum_cell 1)) 5701)
  -- and the page: for the board, and rows for machines (TC, AAC, ARQC)
  pub page : T (same (sheet_text Report sheet) board)
  pub row_of_3 : T (same (profile_row Machines sheet 3) (lines ("profile 3 2 0 2" ∷ [])))
  pub row_of_7 : T (same (profile_row Machines sheet 7) (lines ("profile 7 1 0 0" ∷ [])))
  pub row_of_9 : T (same (refusal_row Machines sheet 9) (lines ("refusal 9 2" ∷ [])))
  pub row_of_0978 : T (same (currency_row Machines sheet 1) (lines ("currency 0978 5701" ∷ [])))

pub samples : Samples
unfolding sum cell total joined sold_all sold all_tallied answer_counted refusal_counted sale_added fits_sale counted sums_of sums_from with_sums written
    sheet_text first_lines line_at papers_line profile_row kinds_of last_of profile_rest refusal_row refusal_rest code_of currency_row padded numeral digits_of
samples =
    record {
      tcs_of_1 = tt;
      arqcs_of_3 = tt;
      nines = tt;
      approved_0978 = tt;
      sales_0840 = tt;
      sales_0392 = tt;
      ascending = tt;
      two-currencies = tt;
      first_code = tt;
      second_sum = tt;
      page = tt;
      row_of_3 = tt;
      row_of_7 = tt;
      row_of_9 = tt;
      row_of_0978 = tt;
    }

-- ORDER MATTERS where a paper is refused 15: of a paper with 32 currencies and one with one more, the second is, in either order
unfoldable pub from : (count currency : ℕ) → List Tally
from zero currency = []
from (suc n) currency = approved currency 1 ∷ from n (currency + 1)

module _ (first second : List Tally) where
  -- the first fits a blank sheet, and the second then doesn't
  struck : leb (length (sold_all first [])) most ≡ true → leb (length (sold_all second (sold_all first []))) most ≡ false
      → (all_fit blank_sheet first ≡ true) × (all_fit (all_tallied blank_sheet first) second ≡ false)
  struck room none =
      let fit = all_fit_lem first blank-kept ∙ room in
      (fit, all_fit_lem second (all-kept first blank-kept fit) ∙ none)

pub order_matters : (all_fit blank_sheet (from 32 1) ≡ true) × (all_fit (all_tallied blank_sheet (from 32 1)) (from 1 33) ≡ false)
    × (all_fit blank_sheet (from 1 33) ≡ true) × (all_fit (all_tallied blank_sheet (from 1 33)) (from 32 1) ≡ false)
unfolding sold_all sold from
order_matters =
    let many = struck (from 32 1) (from 1 33) refl refl in
    let other = struck (from 1 33) (from 32 1) refl refl in
    (many.0, many.1, other.0, other.1)
