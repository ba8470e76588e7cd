-- The sums in their cells, and an amount added to them place by place. Assumes nothing.
use mathlib.Core.Path.{◌≡◌, refl, sym, ap, ap₂, ◌∙◌}
use mathlib.Core.Bool.{Bool, true, false, cond}
use mathlib.Core.List.{List, [], ◌∷◌}
use Prim.Native.Nat.{ℕ, zero, suc, ◌+◌, ◌-◌, ◌≤◌, ◌<◌}
use native.Mathlib.Nat.{add-zero, sub-zero, zero-add}
use native.Mathlib.Omega.{arith}
use borrow.Author.Tests.{ltb-true, ltb-false, lt-ltb, le-ltb, le-leb, lt-leb, eq-eqb, ne_eqb}
use lib.Dec.{eqb, ltb}
use lib.ListN.{length, get_or, set}
use lib.Seq.{get_or-set_other, set-get_or}
use Rattle.sheet.specs.Sheet.{stopped}
use Rattle.sums.specs.Sums.{Sum, new, raised, sold, place_of, count_cell, code_cell, sum_cell, most, sum_at, sums_from, sums_of, sum_put}
use Rattle.sums.specs.Sums.{written, with_sums, fits_sale, sale_added}

-- ---- the cells

pub count-is : (count at : ℕ) (sheet : List ℕ) → length (sums_from count at sheet) ≡ count
unfolding sums_from
count-is zero at sheet = refl
count-is (suc count) at sheet = ap suc (count-is count (at + 1) sheet)

-- what is put at a place changes no sum behind it
pub behind : (count from at : ℕ) (sheet : List ℕ) (sum : Sum) → at < from → from + count ≤ most
    → sums_from count from (sum_put sheet at sum) ≡ sums_from count from sheet
unfolding sums_from
behind zero from at sheet sum l h = refl
behind (suc count) from at sheet sum l h =
    let between = set sheet (code_cell at) sum.currency in
    let same_code : get_or (sum_put sheet at sum) (code_cell from) 0 ≡ get_or sheet (code_cell from) 0 =
    get_or-set_other between (sum_cell at) (code_cell from) sum.total 0 (λ e. omega arith)
    ∙ get_or-set_other sheet (code_cell at) (code_cell from) sum.currency 0 (λ e. omega arith) in
    let same_sum : get_or (sum_put sheet at sum) (sum_cell from) 0 ≡ get_or sheet (sum_cell from) 0 =
    get_or-set_other between (sum_cell at) (sum_cell from) sum.total 0 (λ e. omega arith)
    ∙ get_or-set_other sheet (code_cell at) (sum_cell from) sum.currency 0 (λ e. omega arith) in
    ap₂ (λ s more. s ∷ more) (ap₂ (λ c t. new c t) same_code same_sum) (behind count (from + 1) at sheet sum (omega arith) (omega arith))

-- what stands there already changes nothing
put_same : (sheet : List ℕ) (at : ℕ) → sum_put sheet at (sum_at sheet at) ≡ sheet
put_same sheet at = ap (λ s. set s (sum_cell at) (get_or sheet (sum_cell at) 0)) (set-get_or sheet (code_cell at) 0) ∙ set-get_or sheet (sum_cell at) 0

written_same : (count at : ℕ) (sheet : List ℕ) → written at (sums_from count at sheet) sheet ≡ sheet
unfolding sums_from written
written_same zero at sheet = refl
written_same (suc count) at sheet =
    ap (λ s. written (at + 1) (sums_from count (at + 1) sheet) s) (put_same sheet at) ∙ written_same count (at + 1) sheet

-- a sum moves up by one place: the one before it is put where it was
pub moved_up : (count at : ℕ) (sheet : List ℕ) (sum : Sum) → at + suc count ≤ most
    → written at (sum ∷ sums_from (suc count) at sheet) sheet
    ≡ written (at + 1) (sum_at sheet at ∷ sums_from count (at + 1) (sum_put sheet at sum)) (sum_put sheet at sum)
unfolding sums_from written
moved_up count at sheet sum h =
    ap (λ more. written (at + 1) (sum_at sheet at ∷ more) (sum_put sheet at sum)) (sym (behind count (at + 1) at sheet sum (omega arith) (omega arith)))

pub last-put : (at : ℕ) (sheet : List ℕ) (sum : Sum) → written at (sum ∷ sums_from 0 at sheet) sheet ≡ sum_put sheet at sum
unfolding sums_from written
last-put at sheet sum = refl

module _ (code : ℕ) where
  -- ---- the place

  module _ (count at : ℕ) (sheet : List ℕ) where
    pub stops : code ≤ get_or sheet (code_cell at) 0 → place_of code (sums_from (suc count) at sheet) ≡ 0
    unfolding sums_from place_of
    stops h = simp (le-ltb (get_or sheet (code_cell at) 0) code h)

    pub goes_on_lem : get_or sheet (code_cell at) 0 < code → place_of code (sums_from (suc count) at sheet) ≡ suc (place_of code (sums_from count (at + 1) sheet))
    unfolding sums_from place_of
    goes_on_lem h = simp (lt-ltb (get_or sheet (code_cell at) 0) code h)

  pub none : (at : ℕ) (sheet : List ℕ) → place_of code (sums_from 0 at sheet) ≡ 0
  unfolding sums_from place_of
  none at sheet = refl

  module _ (amount : ℕ) where
    -- the sums before the place stay
    record Split (count at p : ℕ) (sheet : List ℕ) : Type 0 where
      pub same : written at (sold code amount (sums_from count at sheet)) sheet
          ≡ written (at + p) (sold code amount (sums_from (count - p) (at + p) sheet)) sheet
      pub size : length (sold code amount (sums_from count at sheet)) ≡ p + length (sold code amount (sums_from (count - p) (at + p) sheet))
      pub here : p < count → code ≤ get_or sheet (code_cell (at + p)) 0
      pub inside : p ≤ count

    at_once : (count at : ℕ) (sheet : List ℕ) → (0 < count → code ≤ get_or sheet (code_cell at) 0) → Split count at 0 sheet
    at_once count at sheet h =
        record {
          same = simp (add-zero, sub-zero);
          size = simp (add-zero, sub-zero) (omega arith);
          here = λ l. rw (add-zero at) (h l);
          inside = omega arith;
        }

    further : (count at p : ℕ) (sheet : List ℕ) → get_or sheet (code_cell at) 0 < code → Split count (at + 1) p sheet → Split (suc count) at (suc p) sheet
    unfolding sums_from sold written
    further count at p sheet h s =
        let first : sold code amount (sums_from (suc count) at sheet) ≡ sum_at sheet at ∷ sold code amount (sums_from count (at + 1) sheet) =
        simp (lt-ltb (get_or sheet (code_cell at) 0) code h) in
        let there : at + 1 + p ≡ at + suc p = omega arith in
        let left : count - p ≡ suc count - suc p = omega arith in
        let rest = ap₂ (λ k i. sold code amount (sums_from k i sheet)) left there in
        record {
          same =
              ap (λ l. written at l sheet) first
              ∙ ap (λ s. written (at + 1) (sold code amount (sums_from count (at + 1) sheet)) s) (put_same sheet at)
              ∙ s.same
              ∙ ap₂ (λ i l. written i l sheet) there rest;
          size = omega (arith, ap length first, s.size, ap length rest);
          here = λ l. rw (← there) (s.here (omega arith));
          inside = omega (arith, s.inside);
        }

    split : (count at : ℕ) (sheet : List ℕ) → Split count at (place_of code (sums_from count at sheet)) sheet
    split zero at sheet = rw (none at sheet) (at_once 0 at sheet (λ l. let z : ⊥ = omega arith in absurd z))
    split (suc count) at sheet = by (ltb (get_or sheet (code_cell at) 0) code) refl (split count (at + 1) sheet) where
      by : (b : Bool) → ltb (get_or sheet (code_cell at) 0) code ≡ b → Split count (at + 1) (place_of code (sums_from count (at + 1) sheet)) sheet
          → Split (suc count) at (place_of code (sums_from (suc count) at sheet)) sheet
      by false e s =
          let here = ltb-false (get_or sheet (code_cell at) 0) code e in
          rw (stops count at sheet here) (at_once (suc count) at sheet (λ l. here))
      by true e s =
          let more = ltb-true (get_or sheet (code_cell at) 0) code e in
          rw (goes_on_lem count at sheet more) (further count at (place_of code (sums_from count (at + 1) sheet)) sheet more s)

    -- ---- at the place

    sold-here : (count at : ℕ) (sheet : List ℕ) → get_or sheet (code_cell at) 0 ≡ code
        → sold code amount (sums_from (suc count) at sheet) ≡ raised amount (sum_at sheet at) ∷ sums_from count (at + 1) sheet
    unfolding sums_from sold
    sold-here count at sheet e =
        simp (le-ltb (get_or sheet (code_cell at) 0) code (omega arith), eq-eqb (get_or sheet (code_cell at) 0) code e)

    sold-new : (count at : ℕ) (sheet : List ℕ) → (0 < count → code ≤ get_or sheet (code_cell at) 0) → (0 < count → get_or sheet (code_cell at) 0 ≡ code → ⊥)
        → sold code amount (sums_from count at sheet) ≡ new code amount ∷ sums_from count at sheet
    unfolding sums_from sold
    sold-new zero at sheet h other = refl
    sold-new (suc count) at sheet h other =
        simp (le-ltb (get_or sheet (code_cell at) 0) code (h (omega arith)), ne_eqb (get_or sheet (code_cell at) 0) code (other (omega arith)))

    grows : (sums : List Sum) → length sums ≤ length (sold code amount sums)
    unfolding sold
    grows [] = omega arith
    grows (sum ∷ more) = by (ltb sum.currency code) (eqb sum.currency code) (grows more) where
      by : (less same : Bool) → length more ≤ length (sold code amount more)
          → length (sum ∷ more) ≤ length (cond less (sum ∷ sold code amount more) (cond same (raised amount sum ∷ more) (new code amount ∷ sum ∷ more)))
      by true same h = omega arith
      by false true h = omega arith
      by false false h = omega arith

    -- ---- a sale

    abbrev Sale : (sheet : List ℕ) (fits : Bool) (after : List ℕ) → Type 0
    Sale sheet fits after = (fits ≡ fits_sale sheet code amount) × (after ≡ sale_added sheet code amount)

    refuse : (sheet : List ℕ) → most < length (sold code amount (sums_of sheet)) → Sale sheet false sheet
    unfolding fits_sale sale_added
    refuse sheet h = let full = lt-leb (length (sold code amount (sums_of sheet))) most h in (simp full, simp full)

    accept : (sheet : List ℕ) {after : List ℕ} → length (sold code amount (sums_of sheet)) ≤ most
        → after ≡ with_sums sheet (sold code amount (sums_of sheet)) → Sale sheet true after
    unfolding fits_sale sale_added
    accept sheet h e = let room = le-leb (length (sold code amount (sums_of sheet))) most h in (simp room, simp room e)

    pub too_many : (sheet : List ℕ) → most < get_or sheet count_cell 0 → Sale sheet false sheet
    unfolding sums_of
    too_many sheet h =
        let n = get_or sheet count_cell 0 in
        refuse sheet (omega (arith, h, count-is n 0 sheet, grows (sums_from n 0 sheet)))

    module _ (sheet : List ℕ) (n p : ℕ) (is : get_or sheet count_cell 0 ≡ n) (place : p ≡ place_of code (sums_from n 0 sheet)) where
      at_place : Split n 0 p sheet
      at_place = rw place (split n 0 sheet)

      listed : sums_of sheet ≡ sums_from n 0 sheet
      unfolding sums_of
      listed = ap (λ m. sums_from m 0 sheet) is

      there : written 0 (sold code amount (sums_of sheet)) sheet ≡ written p (sold code amount (sums_from (n - p) p sheet)) sheet
      there =
          ap (λ l. written 0 (sold code amount l) sheet) listed
          ∙ at_place.same
          ∙ ap (λ i. written i (sold code amount (sums_from (n - p) i sheet)) sheet) (zero-add p)

      size : length (sold code amount (sums_of sheet)) ≡ p + length (sold code amount (sums_from (n - p) p sheet))
      size =
          ap (λ l. length (sold code amount l)) listed
          ∙ at_place.size
          ∙ ap (λ i. p + length (sold code amount (sums_from (n - p) i sheet))) (zero-add p)

      -- its currency is there
      pub added : n ≤ most → p < n → get_or sheet (code_cell p) 0 ≡ code
          → Sale sheet true (set sheet (sum_cell p) (stopped (get_or sheet (sum_cell p) 0 + amount)))
      unfolding with_sums written
      added few l e =
          let k = n - p - 1 in
          let total = stopped (get_or sheet (sum_cell p) 0 + amount) in
          let sum = raised amount (sum_at sheet p) in
          let after = set sheet (sum_cell p) total in
          let here : sold code amount (sums_from (n - p) p sheet) ≡ sum ∷ sums_from k (p + 1) sheet =
          ap (λ m. sold code amount (sums_from m p sheet)) (let z : n - p ≡ suc k = omega arith in z) ∙ sold-here k p sheet e in
          let put : sum_put sheet p sum ≡ after = ap (λ s. set s (sum_cell p) total) (set-get_or sheet (code_cell p) 0) in
          let cells : written 0 (sold code amount (sums_of sheet)) sheet ≡ after =
          there
          ∙ ap (λ s. written p s sheet) here
          ∙ ap (λ s. written (p + 1) s (sum_put sheet p sum)) (sym (behind k (p + 1) p sheet sum (omega arith) (omega arith)))
          ∙ written_same k (p + 1) (sum_put sheet p sum)
          ∙ put in
          let many : length (sold code amount (sums_of sheet)) ≡ n = omega (arith, size, ap length here, count-is k (p + 1) sheet) in
          let same : get_or after count_cell 0 ≡ n = get_or-set_other sheet (sum_cell p) count_cell total 0 (λ z. omega arith) ∙ is in
          accept sheet (omega arith)
          (sym (ap₂ (λ s m. set s count_cell m) cells (many ∙ sym same) ∙ set-get_or after count_cell 0))

      -- it is not, and there is no place left, or there is
      module _ (other : p < n → get_or sheet (code_cell p) 0 ≡ code → ⊥) where
        newly : sold code amount (sums_from (n - p) p sheet) ≡ new code amount ∷ sums_from (n - p) p sheet
        newly =
            sold-new (n - p) p sheet (λ l. rw (zero-add p) at (at_place.here (omega arith))) (λ l. other (omega arith))

        one_more_lem : length (sold code amount (sums_of sheet)) ≡ n + 1
        one_more_lem = omega (arith, size, ap length newly, count-is (n - p) p sheet, at_place.inside)

        pub full : n ≡ most → Sale sheet false sheet
        full all = refuse sheet (omega (arith, one_more_lem))

        pub pushed : n < most → {after : List ℕ} → after ≡ written p (new code amount ∷ sums_from (n - p) p sheet) sheet
            → Sale sheet true (set after count_cell (n + 1))
        unfolding with_sums
        pushed few e =
            accept sheet (omega (arith, one_more_lem))
            (ap₂ (λ s m. set s count_cell m) (e ∙ ap (λ s. written p s sheet) (sym newly) ∙ sym there) (sym one_more_lem))
