-- A sheet that holds what so many papers and these tallies come to, tally after tally. Assumes nothing.
use mathlib.Core.Path.{◌≡◌, refl, sym, ap, ap₂, ◌∙◌}
use mathlib.Core.Bool.{Bool, true, false, cond, ◌&&◌, ◌||◌}
use mathlib.Core.List.{List, [], ◌∷◌, ◌++◌, append-nil}
use Prim.Native.Nat.{ℕ, ◌+◌, ◌≤◌, ◌<◌}
use native.Mathlib.Omega.{arith}
use borrow.Author.Tests.{ltb-false, leb-true, leb-false, le-leb, lt-leb, eq-eqb, ne_eqb}
use lib.Dec.{eqb, ltb, leb}
use lib.ListN.{length, get_or, length-replicate, get_or-replicate}
use lib.Seq.{append_snoc}
use Rattle.sheet.specs.Sheet.{blank_sheet, papers, answer_cell, refusal_cell, stopped, counted, no_answer, no_refusal, answer_counted, refusal_counted}
use Rattle.sums.specs.Sums.{Sum, sold, count_cell, code_cell, sum_cell, most, fits_sale, sale_added}
use Rattle.tallies.specs.Tallies.{Tally, answered, refused, approved, tallied, all_tallied, fits, all_fit}
use Rattle.sheet_laws.specs.Class.{total}
use Rattle.sheet_laws.proofs.Totals.{total-one, unmoved}
use Rattle.sheet_laws.proofs.Listing.{stopped_plus, sold_grows}
use Rattle.sheet_laws.proofs.Cells.{Holds, sums-read, one_more_lem, with_sums_lem}
use Rattle.sheet_laws.proofs.Sold.{sold_by, sold_all, all_grow}

-- what a tally adds to a counting cell
abbrev pub marks_in : (cell : ℕ) → Tally → ℕ
marks_in cell (answered profile kind) = cond (no_answer profile kind) 0 (cond (eqb cell (answer_cell profile kind)) 1 0)
marks_in cell (refused number) = cond (no_refusal number) 0 (cond (eqb cell (refusal_cell number)) 1 0)
marks_in cell (approved currency amount) = 0

-- what is in each: papers in the first
abbrev pub counts_of : (taken : ℕ) → List Tally → (cell : ℕ) → ℕ
counts_of taken tallies cell = stopped (total (marks_in cell) tallies + cond (eqb cell 0) taken 0)

pub record Kept (taken : ℕ) (tallies : List Tally) (sums : List Sum) (sheet : List ℕ) : Type 0 where
  pub held : Holds (counts_of taken tallies) sums sheet

abbrev pub behind : List Tally → Tally → List Tally
behind tallies tally = tallies ++ tally ∷ []

-- ---- tests

never : ◌≡◌ {A = Bool} true false → ⊥
never e = let z : ◌≡◌ {A = ℕ} 0 1 = cc in omega arith

pub none_of : (a b : Bool) → a || b ≡ false → (a ≡ false) × (b ≡ false)
none_of false b e = (refl, e)
none_of true b e = (e, absurd (never e))

pub both : (a b : Bool) → a && b ≡ true → (a ≡ true) × (b ≡ true)
both true b e = (refl, e)
both false b e = absurd (never (sym e))

pub answers-within : (profile kind : ℕ) → no_answer profile kind ≡ false → answer_cell profile kind < count_cell
answers-within profile kind e =
    let each = none_of (eqb profile 0 || ltb 124 profile) (ltb 2 kind) e in
    let most = none_of (eqb profile 0) (ltb 124 profile) each.0 in
    omega (arith, ltb-false 124 profile most.1, ltb-false 2 kind each.1)

refusals-within : (number : ℕ) → no_refusal number ≡ false → refusal_cell number < count_cell
refusals-within number e = omega (arith, ltb-false 19 number (none_of (eqb number 0) (ltb 19 number) e).1)

-- ---- one tally

recount : {f g : ℕ → ℕ} {sums : List Sum} {sheet : List ℕ} → Holds f sums sheet → ((cell : ℕ) → f cell ≡ g cell) → Holds g sums sheet
recount h same =
    record {
      size = h.size;
      counts-are = λ cell l. h.counts-are cell l ∙ same cell;
      few = h.few;
      count-is = h.count-is;
      places = h.places;
    }

module _ {taken : ℕ} {tallies : List Tally} {sums : List Sum} {sheet : List ℕ} (k : Kept taken tallies sums sheet) where
  module _ (tally : Tally) where
    -- it counts in no cell
    counts_nowhere : ((cell : ℕ) → marks_in cell tally ≡ 0) → Kept taken (behind tallies tally) sums sheet
    counts_nowhere nowhere =
        record {
          held = recount k.held (λ cell. ap (λ n. stopped (n + cond (eqb cell 0) taken 0)) (unmoved (marks_in cell) tallies tally (nowhere cell)));
        }

    -- it counts in one
    counts_in : (cell : ℕ) → cell < count_cell → marks_in cell tally ≡ 1 → ((i : ℕ) → (i ≡ cell → ⊥) → marks_in i tally ≡ 0)
        → Kept taken (behind tallies tally) sums (counted sheet cell)
    counts_in cell inside here else =
        let before = total (marks_in cell) tallies + cond (eqb cell 0) taken 0 in
        let one = total-one (marks_in cell) tallies tally in
        let grown : total (marks_in cell) (behind tallies tally) + cond (eqb cell 0) taken 0 ≡ before + 1 = omega arith in
        record {
          held =
              one_more_lem k.held (counts_of taken (behind tallies tally)) cell inside (ap stopped grown ∙ sym (stopped_plus before 1))
              (λ i other. ap (λ n. stopped (n + cond (eqb i 0) taken 0)) (sym (unmoved (marks_in i) tallies tally (else i other))));
        }

    -- in the cell of its number, where that is in range
    counts : (cell : ℕ) (no : Bool) → ((i : ℕ) → marks_in i tally ≡ cond no 0 (cond (eqb i cell) 1 0)) → (no ≡ false → cell < count_cell)
        → Kept taken (behind tallies tally) sums (cond no sheet (counted sheet cell))
    counts cell true marks inside = counts_nowhere marks
    counts cell false marks inside =
        counts_in cell (inside refl) (marks cell ∙ ap (λ b. cond b 1 0) (eq-eqb cell cell refl))
        (λ i other. marks i ∙ ap (λ b. cond b 1 0) (ne_eqb i cell other))

  count-answer : (profile kind : ℕ) → Kept taken (behind tallies (answered profile kind)) sums (answer_counted sheet profile kind)
  unfolding answer_counted
  count-answer profile kind =
      counts (answered profile kind) (answer_cell profile kind) (no_answer profile kind) (λ i. refl) (answers-within profile kind)

  count_refusal : (number : ℕ) → Kept taken (behind tallies (refused number)) sums (refusal_counted sheet number)
  unfolding refusal_counted
  count_refusal number = counts (refused number) (refusal_cell number) (no_refusal number) (λ i. refl) (refusals-within number)

  -- the sums with an amount more
  sale_fits : (currency amount : ℕ) → fits_sale sheet currency amount ≡ leb (length (sold currency amount sums)) most
  unfolding fits_sale
  sale_fits currency amount = ap (λ l. leb (length (sold currency amount l)) most) (sums-read k.held)

  add_sale : (currency amount : ℕ) → fits_sale sheet currency amount ≡ true
      → Kept taken (behind tallies (approved currency amount)) (sold currency amount sums) (sale_added sheet currency amount)
  unfolding sale_added
  add_sale currency amount fit =
      let then = sold currency amount sums in
      let room = leb-true (length then) most (sym (sale_fits currency amount) ∙ fit) in
      rw (fit, sums-read k.held)
      (record {
        held =
            recount (with_sums_lem k.held then (sold_grows currency amount sums) room)
            (λ cell. ap (λ n. stopped (n + cond (eqb cell 0) taken 0)) (unmoved (marks_in cell) tallies (approved currency amount) refl));
      })

  pub one-fits : (tally : Tally) → fits sheet tally ≡ leb (length (sold_by tally sums)) most
  one-fits (answered profile kind) = sym (le-leb (length sums) most k.held.few)
  one-fits (refused number) = sym (le-leb (length sums) most k.held.few)
  one-fits (approved currency amount) = sale_fits currency amount

  pub one_kept : (tally : Tally) → fits sheet tally ≡ true → Kept taken (behind tallies tally) (sold_by tally sums) (tallied sheet tally)
  one_kept (answered profile kind) fit = count-answer profile kind
  one_kept (refused number) fit = count_refusal number
  one_kept (approved currency amount) fit = add_sale currency amount fit

  -- a paper more
  pub paper-kept : Kept (taken + 1) tallies sums (counted sheet papers)
  paper-kept =
      let before = total (marks_in 0) tallies + taken in
      let grown : total (marks_in 0) tallies + (taken + 1) ≡ before + 1 = omega arith in
      record {
        held =
            one_more_lem k.held (counts_of (taken + 1) tallies) papers (omega arith) (ap stopped grown ∙ sym (stopped_plus before 1))
            (λ i other. ap (λ b. stopped (total (marks_in i) tallies + cond b (taken + 1) 0)) (ne_eqb i 0 other)
            ∙ ap (λ b. stopped (total (marks_in i) tallies + cond b taken 0)) (sym (ne_eqb i 0 other)));
      }

-- ---- before the first paper

pub blank-kept : Kept 0 [] [] blank_sheet
unfolding total
blank-kept =
    let zeros : (cell : ℕ) → cell < 458 → get_or blank_sheet cell 0 ≡ 0 = λ cell l. get_or-replicate 458 cell 0 0 l in
    record {
      held =
          record {
            size = length-replicate {A = ℕ} 458 0;
            counts-are = λ cell l. zeros cell (omega arith) ∙ by (eqb cell 0);
            few = omega arith;
            count-is = zeros count_cell (omega arith);
            places = λ at l. record { code = zeros (code_cell at) (omega arith); total = zeros (sum_cell at) (omega arith) };
          };
    }
  where
    by : (b : Bool) → 0 ≡ stopped (0 + cond b 0 0)
    by true = refl
    by false = refl

-- ---- tally after tally

pub all-kept : (more : List Tally) {taken : ℕ} {tallies : List Tally} {sums : List Sum} {sheet : List ℕ} → Kept taken tallies sums sheet
    → all_fit sheet more ≡ true → Kept taken (tallies ++ more) (sold_all more sums) (all_tallied sheet more)
unfolding all_fit all_tallied sold_all
all-kept [] k fit = rw append-nil k
all-kept (tally ∷ more) {tallies = tallies} {sheet = sheet} k fit =
    let each = both (fits sheet tally) (all_fit (tallied sheet tally) more) fit in
    rw (← append_snoc tallies tally more) (all-kept more (one_kept k tally each.0) each.1)

-- ALL FIT just where they come to at most 32 currencies
pub all_fit_lem : (more : List Tally) {taken : ℕ} {tallies : List Tally} {sums : List Sum} {sheet : List ℕ} → Kept taken tallies sums sheet
    → all_fit sheet more ≡ leb (length (sold_all more sums)) most
unfolding all_fit sold_all
all_fit_lem [] {sums = sums} k = sym (le-leb (length sums) most k.held.few)
all_fit_lem (tally ∷ more) {taken} {tallies} {sums} {sheet} k = by (fits sheet tally) refl (λ fit. all_fit_lem more (one_kept k tally fit)) where
  by : (fit : Bool) → fits sheet tally ≡ fit
      → (fits sheet tally ≡ true → all_fit (tallied sheet tally) more ≡ leb (length (sold_all more (sold_by tally sums))) most)
      → fits sheet tally && all_fit (tallied sheet tally) more ≡ leb (length (sold_all more (sold_by tally sums))) most
  by true e later = rw e (later e)
  by false e later =
      let over = leb-false (length (sold_by tally sums)) most (sym (one-fits k tally) ∙ e) in
      rw e (sym (lt-leb (length (sold_all more (sold_by tally sums))) most (omega (arith, all_grow more (sold_by tally sums)))))
