-- The sums that tallies come to, without a limit on the currencies. Assumes nothing.
use mathlib.Core.Path.{◌≡◌, refl, sym, ap, ◌∙◌}
use mathlib.Core.Bool.{Bool, true, false, cond, ◌||◌}
use mathlib.Core.List.{List, [], ◌∷◌, ◌++◌, append-nil}
use Prim.Native.Nat.{ℕ, ◌+◌, ◌≤◌}
use native.Mathlib.Omega.{arith}
use borrow.Author.Tests.{lt-ltb, eqb-true, eqb-false}
use lib.Dec.{eqb, ltb}
use lib.ListN.{length}
use lib.Seq.{append_snoc}
use Rattle.sheet.specs.Sheet.{largest, stopped}
use Rattle.sums.specs.Sums.{Sum, sold}
use Rattle.tallies.specs.Tallies.{Tally, answered, refused, approved}
use Rattle.sheet_laws.specs.Class.{sales_of, amounts_of, total, Ascending, none, is_in}
use Rattle.sheet_laws.proofs.Totals.{total-one, unmoved}
use Rattle.sheet_laws.proofs.Listing.{stopped_plus, codes, sum_in, sold_ascends, sold_grows, sold-listed, sold-here, sold_else}

-- an amount is one that a cell holds
abbrev pub Small : Tally → Type 0
Small (answered profile kind) = Unit
Small (refused number) = Unit
Small (approved currency amount) = amount ≤ largest

pub data AllSmall : List Tally → Type 0 where
  all_none : AllSmall []
  all_more : {tally : Tally} {more : List Tally} → Small tally → AllSmall more → AllSmall (tally ∷ more)

-- a list of sums is what tallies come to
pub record Sells (tallies : List Tally) (sums : List Sum) : Type 0 where
  pub ascends : Ascending 0 (codes sums)
  pub listed : (currency : ℕ) → is_in currency (codes sums) ≡ ltb 0 (total (sales_of currency) tallies)
  pub totals : (currency : ℕ) → sum_in currency sums ≡ stopped (total (amounts_of currency) tallies)

pub sells_nothing : Sells [] []
unfolding is_in sum_in total
sells_nothing = record { ascends = none; listed = λ c. refl; totals = λ c. refl }

abbrev pub sold_by : Tally → List Sum → List Sum
sold_by (answered profile kind) sums = sums
sold_by (refused number) sums = sums
sold_by (approved currency amount) sums = sold currency amount sums

unfoldable pub sold_all : List Tally → List Sum → List Sum
sold_all [] sums = sums
sold_all (tally ∷ more) sums = sold_all more (sold_by tally sums)

-- they get no fewer
pub sold-more : (tally : Tally) (sums : List Sum) → length sums ≤ length (sold_by tally sums)
sold-more (answered profile kind) sums = omega arith
sold-more (refused number) sums = omega arith
sold-more (approved currency amount) sums = sold_grows currency amount sums

pub all_grow : (more : List Tally) (sums : List Sum) → length sums ≤ length (sold_all more sums)
unfolding sold_all
all_grow [] sums = omega arith
all_grow (tally ∷ more) sums = omega (arith, sold-more tally sums, all_grow more (sold_by tally sums))

module _ {tallies : List Tally} {sums : List Sum} (s : Sells tallies sums) where
  -- a tally that is no approval
  sells_no : (tally : Tally) → ((currency : ℕ) → sales_of currency tally ≡ 0) → ((currency : ℕ) → amounts_of currency tally ≡ 0)
      → Sells (tallies ++ tally ∷ []) sums
  sells_no tally no-sale no-amount =
      record {
        ascends = s.ascends;
        listed = λ c. s.listed c ∙ ap (ltb 0) (unmoved (sales_of c) tallies tally (no-sale c));
        totals = λ c. s.totals c ∙ ap stopped (unmoved (amounts_of c) tallies tally (no-amount c));
      }

  -- an approval
  module _ (currency amount : ℕ) where
    abbrev then : List Tally
    then = tallies ++ approved currency amount ∷ []

    listed_now : (c : ℕ) (same : Bool) → eqb currency c ≡ same → is_in c (codes (sold currency amount sums)) ≡ ltb 0 (total (sales_of c) then)
    listed_now c true e =
        let one = total-one (sales_of c) tallies (approved currency amount) in
        let some : 1 ≤ total (sales_of c) then = omega (arith, one, ap (λ b. cond {A = ℕ} b 1 0) e) in
        sold-listed currency amount c sums ∙ ap (λ b. b || is_in c (codes sums)) e ∙ sym (lt-ltb 0 (total (sales_of c) then) some)
    listed_now c false e =
        sold-listed currency amount c sums
        ∙ ap (λ b. b || is_in c (codes sums)) e
        ∙ s.listed c
        ∙ ap (ltb 0) (unmoved (sales_of c) tallies (approved currency amount) (ap (λ b. cond b 1 0) e))

    total_now : amount ≤ largest → (c : ℕ) (same : Bool) → eqb currency c ≡ same
        → sum_in c (sold currency amount sums) ≡ stopped (total (amounts_of c) then)
    total_now small c true e =
        let here = eqb-true currency c e in
        let sum = total (amounts_of c) tallies in
        let one = total-one (amounts_of c) tallies (approved currency amount) in
        let grown : sum + amount ≡ total (amounts_of c) then = omega (arith, one, ap (λ b. cond {A = ℕ} b amount 0) e) in
        ap (λ d. sum_in d (sold currency amount sums)) (sym here)
        ∙ sold-here currency amount small sums s.ascends
        ∙ ap (λ d. stopped (sum_in d sums + amount)) here
        ∙ ap (λ n. stopped (n + amount)) (s.totals c)
        ∙ stopped_plus sum amount
        ∙ ap stopped grown
    total_now small c false e =
        sold_else currency amount c (eqb-false currency c e) sums
        ∙ s.totals c
        ∙ ap stopped (unmoved (amounts_of c) tallies (approved currency amount) (ap (λ b. cond b amount 0) e))

    sells_sale : amount ≤ largest → Sells then (sold currency amount sums)
    sells_sale small =
        record {
          ascends = sold_ascends currency amount (omega arith) sums s.ascends;
          listed = λ c. listed_now c (eqb currency c) refl;
          totals = λ c. total_now small c (eqb currency c) refl;
        }

  pub sells_one : (tally : Tally) → Small tally → Sells (tallies ++ tally ∷ []) (sold_by tally sums)
  sells_one (answered profile kind) small = sells_no (answered profile kind) (λ c. refl) (λ c. refl)
  sells_one (refused number) small = sells_no (refused number) (λ c. refl) (λ c. refl)
  sells_one (approved currency amount) small = sells_sale currency amount small

pub sells_all : (more : List Tally) {tallies : List Tally} {sums : List Sum} → Sells tallies sums → AllSmall more
    → Sells (tallies ++ more) (sold_all more sums)
unfolding sold_all
sells_all [] s all_none = rw append-nil s
sells_all (tally ∷ more) {tallies} s (all_more small smalls) =
    rw (← append_snoc tallies tally more) (sells_all more (sells_one s tally small) smalls)
