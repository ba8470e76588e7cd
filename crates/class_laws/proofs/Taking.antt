-- THE TOTALS: after papers from a blank sheet, it says the class of those that were taken; and which are taken. Assumes nothing.
use mathlib.Core.Path.{◌≡◌, refl, sym, ap, ap₂, subst, ◌∙◌}
use mathlib.Core.Bool.{Bool, true, false, cond, ◌&&◌}
use mathlib.Core.List.{List, [], ◌∷◌, ◌++◌, map, append_assoc, append-nil, Permᴰ}
use Prim.Native.Nat.{ℕ, zero, suc, ◌+◌, ◌≤◌, ◌<◌}
use native.Mathlib.Omega.{arith}
use borrow.Author.Tests.{leb-true, leb-false, le-leb}
use lib.Dec.{leb}
use lib.ListN.{length, get_or, length-append}
use lib.Seq.{append_snoc}
use Rattle.refusal.specs.declared.Refusal.TheVariants.{TooManyCurrencies, TooManyPapers}
use Rattle.sheet.specs.Sheet.{blank_sheet, papers, largest, stopped, counted}
use Rattle.sums.specs.Sums.{Sum, count_cell, most}
use Rattle.tallies.specs.Tallies.{Tally, answered, refused, approved, all_fit, all_tallied}
use Rattle.class_sheet.specs.ClassSheet.{paper_tallies, is_full, has_room, taken_of, sheet_after}
use Rattle.sheet_laws.specs.Class.{joined, class_of, Lists, Says, stopped_class}
use Rattle.sheet_laws.proofs.Listing.{as_is}
use Rattle.sheet_laws.proofs.Sold.{Small, AllSmall, all_none, all_more, Sells, sold_all, sells_nothing, sells_all}
use Rattle.sheet_laws.proofs.Kept.{Kept, paper-kept, blank-kept, all-kept, all_fit_lem}
use Rattle.sheet_laws.proofs.Saying.{says, as_many}
use Rattle.sheet_laws.proofs.Only.{only, same_class}
use Rattle.sheet_laws.proofs.Bounds.{Payable, AllPayable, none_paid, more_paid}
use Rattle.class_laws.specs.Taking.{is_done, sheet_of, taken_from, all_done}
use Rattle.class_laws.proofs.Paid.{paper_paid}
use Rattle.std.specs.Prelude.{Err, Ok}

small : (tally : Tally) → Payable tally → Small tally
small (answered profile kind) p = tt
small (refused number) p = tt
small (approved currency amount) p = omega arith

pub all_small : {s : List Tally} → AllPayable s → AllSmall s
all_small none_paid = all_none
all_small (more_paid {tally = tally} p ps) = all_more (small tally p) (all_small ps)

joined-one : (taken : List (List Tally)) (more : List Tally) → joined (taken ++ more ∷ []) ≡ joined taken ++ more
unfolding joined
joined-one [] more = append-nil more
joined-one (first ∷ taken) more = ap (λ l. first ++ l) (joined-one taken more) ∙ sym (append_assoc first (joined taken) more)

-- a sheet after papers with these tallies
pub record Stands (taken : List (List Tally)) (sheet : List ℕ) : Type 0 where
  pub sums : List Sum
  pub kept : Kept (length taken) (joined taken) sums sheet
  pub sells : Sells (joined taken) sums
  pub few : length taken ≤ 200

pub blank_stands : Stands [] blank_sheet
unfolding joined
blank_stands = record { sums = []; kept = blank-kept; sells = sells_nothing; few = omega arith }

module _ {taken : List (List Tally)} {sheet : List ℕ} (s : Stands taken sheet) where
  pub says_class : Says (stopped_class (class_of taken)) sheet
  says_class = says taken s.kept s.sells

  full_is : is_full sheet ≡ leb 200 (length taken)
  full_is = ap (leb 200) (says_class.taken_is ∙ as_is (length taken) (omega (arith, s.few)))

  module _ (paper : List ℕ) where
    abbrev then : List Sum
    then = sold_all (paper_tallies paper) s.sums

    room_is : has_room sheet (paper_tallies paper) ≡ leb (length then) most
    unfolding has_room
    room_is =
        ap₂ ◌&&◌ (ap (λ n. leb n most) s.kept.held.count-is ∙ le-leb (length s.sums) most s.kept.held.few) (all_fit_lem (paper_tallies paper) s.kept)

    pub sells_then : Sells (joined (taken ++ paper_tallies paper ∷ [])) then
    sells_then = rw (joined-one taken (paper_tallies paper)) (sells_all (paper_tallies paper) s.sells (all_small (paper_paid paper)))

    pub taken_is : taken_of sheet paper
        ≡ cond (leb 200 (length taken)) (Err TooManyPapers) (cond (leb (length then) most) (Ok tt) (Err TooManyCurrencies))
    unfolding taken_of
    taken_is = ap₂ (λ full room. cond full (Err TooManyPapers) (cond room (Ok tt) (Err TooManyCurrencies))) full_is room_is

    -- TAKEN OR NOT: 16 where 200 are taken, else 15 where the currencies of the class with this paper are more than 32
    pub taken_or_not : (currencies : List ℕ) → Lists (class_of (taken ++ paper_tallies paper ∷ [])) currencies
        → taken_of sheet paper
        ≡ cond (leb 200 (length taken)) (Err TooManyPapers) (cond (leb (length currencies) 32) (Ok tt) (Err TooManyCurrencies))
    taken_or_not currencies l =
        taken_is
        ∙ ap (λ n. cond (leb 200 (length taken)) (Err TooManyPapers) (cond (leb n 32) (Ok tt) (Err TooManyCurrencies)))
        (as_many (taken ++ paper_tallies paper ∷ []) sells_then currencies l)

    -- refused, the sheet stays
    pub refused_stays : is_done (taken_of sheet paper) ≡ false → sheet_after sheet paper ≡ sheet
    unfolding taken_of sheet_after
    refused_stays e = by (is_full sheet) (has_room sheet (paper_tallies paper)) e where
      by : (full room : Bool) → is_done (cond full (Err TooManyPapers) (cond room (Ok tt) (Err TooManyCurrencies))) ≡ false
          → cond full sheet (cond room (counted (all_tallied sheet (paper_tallies paper)) papers) sheet) ≡ sheet
      by true room e = refl
      by false true e = absurd (let z : ◌≡◌ {A = ℕ} 0 1 = cc in let w : ⊥ = omega arith in w)
      by false false e = refl

    -- taken, it stands with its tallies too
    pub taken-stands : is_done (taken_of sheet paper) ≡ true → Stands (taken ++ paper_tallies paper ∷ []) (sheet_after sheet paper)
    unfolding taken_of sheet_after
    taken-stands e = by (is_full sheet) refl (has_room sheet (paper_tallies paper)) refl e where
      by : (full : Bool) → is_full sheet ≡ full → (room : Bool) → has_room sheet (paper_tallies paper) ≡ room
          → is_done (cond full (Err TooManyPapers) (cond room (Ok tt) (Err TooManyCurrencies))) ≡ true
          → Stands (taken ++ paper_tallies paper ∷ []) (cond full sheet (cond room (counted (all_tallied sheet (paper_tallies paper)) papers) sheet))
      by true p room q e = absurd (let z : ◌≡◌ {A = ℕ} 0 1 = cc in let w : ⊥ = omega arith in w)
      by false p false q e = absurd (let z : ◌≡◌ {A = ℕ} 0 1 = cc in let w : ⊥ = omega arith in w)
      by false p true q e =
          let fit = all_fit_lem (paper_tallies paper) s.kept ∙ sym room_is ∙ q in
          let below = leb-false 200 (length taken) (sym full_is ∙ p) in
          let count = length-append taken (paper_tallies paper ∷ []) in
          let many : length taken + 1 ≡ length (taken ++ paper_tallies paper ∷ []) = omega arith in
          record {
            sums = then;
            kept = rw (← many, joined-one taken (paper_tallies paper)) (paper-kept (all-kept (paper_tallies paper) s.kept fit));
            sells = sells_then;
            few = omega arith;
          }

-- ---- THE TOTALS

stands_on : (more : List (List ℕ)) {taken : List (List Tally)} {sheet : List ℕ} → Stands taken sheet
    → Stands (taken ++ map paper_tallies (taken_from sheet more)) (sheet_of sheet more)
unfolding taken_from sheet_of
stands_on [] {taken} s = rw append-nil s
stands_on (paper ∷ more) {taken} {sheet} s =
    by (is_done (taken_of sheet paper)) refl (λ e. stands_on more (taken-stands s paper e))
    (λ e. stands_on more (subst (Stands taken) (sym (refused_stays s paper e)) s))
  where
    later : List (List ℕ)
    later = taken_from (sheet_after sheet paper) more

    by : (done : Bool) → is_done (taken_of sheet paper) ≡ done
        → (is_done (taken_of sheet paper) ≡ true → Stands ((taken ++ paper_tallies paper ∷ []) ++ map paper_tallies later) (sheet_of (sheet_after sheet paper) more))
        → (is_done (taken_of sheet paper) ≡ false → Stands (taken ++ map paper_tallies later) (sheet_of (sheet_after sheet paper) more))
        → Stands (taken ++ map paper_tallies (cond (is_done (taken_of sheet paper)) (paper ∷ later) later)) (sheet_of (sheet_after sheet paper) more)
    by true e more-taken as_before = rw (e, ← append_snoc taken (paper_tallies paper) (map paper_tallies later)) (more-taken e)
    by false e more-taken as_before = rw e (as_before e)

pub stands : (papers : List (List ℕ)) → Stands (map paper_tallies (taken_from blank_sheet papers)) (sheet_of blank_sheet papers)
stands papers = stands_on papers blank_stands

pub totals_stopped : (papers : List (List ℕ))
    → Says (stopped_class (class_of (map paper_tallies (taken_from blank_sheet papers)))) (sheet_of blank_sheet papers)
totals_stopped papers = says_class (stands papers)

-- THE ORDER of the papers taken doesn't matter
pub same_sheet : (ps qs : List (List ℕ)) → Permᴰ (map paper_tallies (taken_from blank_sheet ps)) (map paper_tallies (taken_from blank_sheet qs))
    → sheet_of blank_sheet ps ≡ sheet_of blank_sheet qs
same_sheet ps qs p = only (totals_stopped ps) (totals_stopped qs) (same_class p)
