-- NO STOP: two hundred papers come to less than a cell holds, so the sheet says the class itself, and every number fits its column.
-- Assumes nothing.
use mathlib.Core.Path.{◌≡◌}
use mathlib.Core.List.{List, [], ◌∷◌, ◌++◌, map}
use Prim.Native.Nat.{ℕ, ◌+◌, ◌*◌, ◌≤◌}
use native.Mathlib.Omega.{arith}
use lib.ListN.{length, length-append}
use Rattle.sheet.specs.Sheet.{blank_sheet}
use Rattle.tallies.specs.Tallies.{Tally}
use Rattle.class_sheet.specs.ClassSheet.{paper_tallies}
use Rattle.sheet_lines.specs.declared.Form.{Form}
use Rattle.sheet_lines.specs.SheetLines.{sheet_text}
use Rattle.numerals.specs.Numeral.{numeral}
use Rattle.numerals.proofs.Numerals.{size_below}
use Rattle.sheet_laws.specs.Class.{total, joined, Class, class_of, Lists, Says}
use Rattle.sheet_laws.specs.Page.{page}
use Rattle.sheet_laws.proofs.Totals.{total_append}
use Rattle.sheet_laws.proofs.Bounds.{approvals_of, AllPayable, none_paid, answers-most, refusals-most, sums-most, Fits, no_stop}
use Rattle.sheet_laws.proofs.Printed.{printed-page}
use Rattle.class_laws.specs.Taking.{sheet_of, taken_from}
use Rattle.class_laws.proofs.Paid.{paid_append, paper-within}
use Rattle.class_laws.proofs.Taking.{stands, totals_stopped}

record Most (count : ℕ) (tallies : List Tally) : Type 0 where
  paid : AllPayable tallies
  sales : total approvals_of tallies ≤ 65_537 * count
  size : length tallies ≤ 131_074 * count

all_most : (papers : List (List ℕ)) → Most (length (map paper_tallies papers)) (joined (map paper_tallies papers))
unfolding joined total
all_most [] = record { paid = none_paid; sales = omega arith; size = omega arith }
all_most (paper ∷ more) =
    let here = paper-within paper in
    let rest = all_most more in
    let after = joined (map paper_tallies more) in
    record {
      paid = paid_append here.paid rest.paid;
      sales = omega (arith, total_append approvals_of (paper_tallies paper) after);
      size = omega (arith, length-append (paper_tallies paper) after);
    }

-- the class of the papers that were taken, one after the other from a blank sheet
abbrev taken : List (List ℕ) → List (List Tally)
taken papers = map paper_tallies (taken_from blank_sheet papers)

-- 200 papers, 131,074 tallies and 65,537 approvals in each at most
record Bounded (class : Class) : Type 0 where
  few : class.taken ≤ 200
  answers : (profile kind : ℕ) → class.answers profile kind ≤ 26_214_800
  refusals : (number : ℕ) → class.refusals number ≤ 26_214_800
  sums : (currency : ℕ) → class.sums currency ≤ 999_999_999_999 * 13_107_400

bounded : (papers : List (List ℕ)) → Bounded (class_of (taken papers))
bounded papers =
    let few = (stands papers).few in
    let m = all_most (taken_from blank_sheet papers) in
    record {
      few = omega arith;
      answers = λ p k. omega (arith, answers-most p k (joined (taken papers)));
      refusals = λ n. omega (arith, refusals-most n (joined (taken papers)));
      sums = λ c. omega (arith, sums-most c m.paid);
    }

-- THE TOTALS
pub totals : (papers : List (List ℕ)) → Says (class_of (taken papers)) (sheet_of blank_sheet papers)
totals papers =
    let b = bounded papers in
    no_stop
    (record {
      taken = omega (arith, b.few);
      answers = λ p k. omega (arith, b.answers p k);
      refusals = λ n. omega (arith, b.refusals n);
      sums = λ c. omega (arith, b.sums c);
    })
    (totals_stopped papers)

-- ALL PRINTED: no number of a page is wider than its column, in which it stands behind spaces with all its digits
pub record InColumns (class : Class) : Type 0 where
  pub papers : length (numeral class.taken) ≤ 4
  pub answers : (profile kind : ℕ) → length (numeral (class.answers profile kind)) ≤ 8
  pub refusals : (number : ℕ) → length (numeral (class.refusals number)) ≤ 8
  pub sums : (currency : ℕ) → length (numeral (class.sums currency)) ≤ 20

pub all-printed : (papers : List (List ℕ)) → InColumns (class_of (taken papers))
all-printed papers =
    let b = bounded papers in
    record {
      papers = size_below _ 3 (omega (arith, b.few));
      answers = λ p k. size_below _ 7 (omega (arith, b.answers p k));
      refusals = λ n. size_below _ 7 (omega (arith, b.refusals n));
      sums = λ c. size_below _ 19 (omega (arith, b.sums c));
    }

-- THE PAGE of a class: what is printed of the sheet after its papers
pub class_page : (form : Form) (papers : List (List ℕ)) (currencies : List ℕ) → Lists (class_of (taken papers)) currencies
    → sheet_text form (sheet_of blank_sheet papers) ≡ page form (class_of (taken papers)) currencies
class_page form papers = printed-page (totals papers) form
