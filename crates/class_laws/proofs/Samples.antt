-- Papers taken and refused, worked out from their bytes. Assumes nothing.
use mathlib.Core.Bool.{Bool, true, false, not, ◌&&◌}
use mathlib.Core.List.{List, [], ◌∷◌, ◌++◌}
use Prim.Native.Nat.{ℕ}
use lib.Dec.{T, eqb}
use lib.ListN.{get_or, set, replicate}
use Rattle.wire.specs.Wire.{number}
use Rattle.spelling.specs.Spelling.{big, record_of, unsaid, unshown, names, first, kind_of, body_of, spell, paper_of}
use Rattle.spelling.proofs.Computed.{answered as computed, heard}
use Rattle.sheet.specs.Sheet.{blank_sheet, papers, answer_cell, counted, answer_counted, refusal_counted}
use Rattle.sums.specs.Sums.{sold, code_cell, sums_of, sums_from, with_sums, written, fits_sale, sale_added}
use Rattle.tallies.specs.Tallies.{answer_tallies, all_fit, all_tallied}
use Rattle.sales.specs.Sales.{sale_by, tallies_from}
use Rattle.sheet_laws.specs.Page.{from}
use Rattle.sheet_laws.proofs.Samples.{from as approvals}
use Rattle.class_sheet.specs.ClassSheet.{paper_tallies, has_room, taken_of, taken_number, sheet_after}

abbrev zeros : ℕ → List ℕ
zeros n = replicate n 0

-- papers with profile 7, which declines nothing, and TCs of 5 at First
abbrev paper : (records : List ℕ) → List ℕ
paper records = paper_of 1 (1 ∷ 3 ∷ 0 ∷ 1 ∷ zeros 48 ++ 7 ∷ zeros 106) records

abbrev sale : (currency : ℕ) → List ℕ
sale currency = spell (names unsaid 7) ++ spell (first 1 5 currency 0x22 unshown)

abbrev one : List ℕ
one = paper (sale 0x0840)

abbrev two : List ℕ
two = paper (sale 0x0978 ++ sale 0x0840)

-- a sheet of so many papers, and what one with 32 approvals of 1 leaves, in the currencies 1 to 32
abbrev taken : (count : ℕ) → List ℕ
taken count = set blank_sheet papers count

abbrev full : List ℕ
full = 1 ∷ zeros 392 ++ 32 ∷ from 1 32 ++ replicate 32 1

unfoldable pub answer : (sheet paper : List ℕ) → ℕ
answer sheet paper = taken_number (taken_of sheet paper)

unfoldable pub cell : (sheet paper : List ℕ) (at : ℕ) → ℕ
cell sheet paper at = get_or (sheet_after sheet paper) at 0

abbrev same : List ℕ → List ℕ → Bool
same [] [] = true
same [] (n ∷ more) = false
same (m ∷ more) [] = false
same (m ∷ more) (n ∷ others) = eqb m n && same more others

pub record Samples : Type 0 where
  pub is_full_lem : T (same (counted (all_tallied blank_sheet (approvals 32 1)) papers) full)
  -- the two hundredth paper is taken, one more is not, whatever it brings
  pub two_hundredth : T (eqb (answer (taken 199) []) 0)
  pub one_more_lem : T (eqb (answer (taken 200) []) 16)
  pub sixteen_first : T (eqb (answer (set full papers 200) one) 16)
  -- nor one that would bring a thirty-third currency; one that is there already brings none
  pub fifteen : T (eqb (answer full one) 15)
  pub known-taken : T (eqb (answer (set full (code_cell 31) 0x0840) one) 0)
  -- refused, it leaves no count
  pub refused_leaves : T (eqb (cell full one (answer_cell 7 0)) 0)
  -- currencies ascend, as they did not come
  pub ascending : T (eqb (cell blank_sheet two (code_cell 0)) 0x0840)

pub samples : Samples
unfolding from approvals answer cell kind_of body_of record_of big number computed heard paper_tallies tallies_from answer_tallies sale_by taken_of has_room sheet_after
    all_tallied all_fit fits_sale sale_added sold sums_of sums_from with_sums written counted answer_counted refusal_counted
samples =
    record {
      is_full_lem = tt;
      two_hundredth = tt;
      one_more_lem = tt;
      sixteen_first = tt;
      fifteen = tt;
      known-taken = tt;
      refused_leaves = tt;
      ascending = tt;
    }
