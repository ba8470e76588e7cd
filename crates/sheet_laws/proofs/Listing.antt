-- The currencies of a sheet and their sums as a list: an amount added keeps it ascending, lists its currency and adds to that sum alone. Assumes nothing.
use mathlib.Core.Path.{◌≡◌, refl, sym, ap, ap₂, subst, ◌∙◌}
use mathlib.Core.Bool.{Bool, true, false, cond, ◌||◌}
use mathlib.Core.List.{List, [], ◌∷◌, map}
use Prim.Native.Nat.{ℕ, ◌+◌, ◌≤◌, ◌<◌}
use native.Mathlib.Omega.{arith}
use borrow.Author.Tests.{ltb-true, ltb-false, le-ltb, eqb-true, eqb-false, eq-eqb, ne_eqb}
use lib.Dec.{eqb, ltb}
use lib.ListN.{length}
use Rattle.sheet.specs.Sheet.{largest, stopped}
use Rattle.sums.specs.Sums.{Sum, new, raised, sold}
use Rattle.sheet_laws.specs.Class.{Ascending, none, next, is_in}

-- ---- a number that stops

pub as_is : (n : ℕ) → n ≤ largest → stopped n ≡ n
as_is n h = simp (le-ltb largest n h)

pub at_most : (n : ℕ) → largest ≤ n → stopped n ≡ largest
at_most n h = by (ltb largest n) refl where
  by : (t : Bool) → ltb largest n ≡ t → cond t largest n ≡ largest
  by true e = refl
  by false e = omega (arith, ltb-false largest n e)

-- what is stopped and then added to stops as the whole does
pub stopped_plus : (n more : ℕ) → stopped (stopped n + more) ≡ stopped (n + more)
stopped_plus n more = by (ltb largest n) refl where
  by : (t : Bool) → ltb largest n ≡ t → stopped (cond t largest n + more) ≡ stopped (n + more)
  by true e =
      let above = ltb-true largest n e in
      at_most (largest + more) (omega arith) ∙ sym (at_most (n + more) (omega arith))
  by false e = refl

-- ---- the currencies

abbrev pub codes : List Sum → List ℕ
codes = map (λ (sum : Sum). sum.currency)

-- the first sum of a currency
unfoldable pub sum_in : (currency : ℕ) → List Sum → ℕ
sum_in currency [] = 0
sum_in currency (sum ∷ more) = cond (eqb sum.currency currency) sum.total (sum_in currency more)

-- three ways for a currency at the first sum of a list
data At (currency amount : ℕ) (sum : Sum) (more : List Sum) : Type 0 where
  behind : sum.currency < currency → sold currency amount (sum ∷ more) ≡ sum ∷ sold currency amount more → At currency amount sum more
  there : sum.currency ≡ currency → sold currency amount (sum ∷ more) ≡ raised amount sum ∷ more → At currency amount sum more
  before : currency < sum.currency → sold currency amount (sum ∷ more) ≡ new currency amount ∷ sum ∷ more → At currency amount sum more

at : (currency amount : ℕ) (sum : Sum) (more : List Sum) → At currency amount sum more
unfolding sold
at currency amount sum more = by (ltb sum.currency currency) refl (eqb sum.currency currency) refl where
  by : (less : Bool) → ltb sum.currency currency ≡ less → (same : Bool) → eqb sum.currency currency ≡ same → At currency amount sum more
  by true l same e = behind (ltb-true sum.currency currency l) (simp l)
  by false l true e = there (eqb-true sum.currency currency e) (simp (l, e))
  by false l false e =
      let other = eqb-false sum.currency currency e in
      let least = ltb-false sum.currency currency l in
      before (omega arith) (simp (l, e))

module _ (currency amount : ℕ) where
  -- it stays ascending
  pub sold_ascends : {low : ℕ} → low ≤ currency → (sums : List Sum) → Ascending low (codes sums) → Ascending low (codes (sold currency amount sums))
  unfolding sold
  sold_ascends l [] none = next l none
  sold_ascends {low} l (sum ∷ more) (next h rest) = by (at currency amount sum more) (λ less. sold_ascends {low = sum.currency + 1} less more rest) where
    by : At currency amount sum more → (sum.currency + 1 ≤ currency → Ascending (sum.currency + 1) (codes (sold currency amount more)))
        → Ascending low (codes (sold currency amount (sum ∷ more)))
    by (behind less e) later = rw e (next h (later (omega arith)))
    by (there same e) later = rw e (next h rest)
    by (before less e) later = let above : currency + 1 ≤ sum.currency = omega arith in rw e (next l (next above rest))

  -- it gets no shorter
  pub sold_grows : (sums : List Sum) → length sums ≤ length (sold currency amount sums)
  unfolding sold
  sold_grows [] = omega arith
  sold_grows (sum ∷ more) = by (at currency amount sum more) (sold_grows more) where
    by : At currency amount sum more → length more ≤ length (sold currency amount more) → length (sum ∷ more) ≤ length (sold currency amount (sum ∷ more))
    by (behind less e) later = rw e (omega arith)
    by (there same e) later = rw e (omega arith)
    by (before less e) later = rw e (omega arith)

  -- its currency is listed now, and each that was
  pub sold-listed : (other : ℕ) (sums : List Sum) → is_in other (codes (sold currency amount sums)) ≡ eqb currency other || is_in other (codes sums)
  unfolding sold is_in
  sold-listed other [] = refl
  sold-listed other (sum ∷ more) = by (at currency amount sum more) (sold-listed other more) where
    swap : (a b c : Bool) → a || (b || c) ≡ b || (a || c)
    swap true true c = refl
    swap true false c = refl
    swap false true c = refl
    swap false false c = refl

    twice : (a b : Bool) → a || b ≡ a || (a || b)
    twice true b = refl
    twice false b = refl

    by : At currency amount sum more → is_in other (codes (sold currency amount more)) ≡ eqb currency other || is_in other (codes more)
        → is_in other (codes (sold currency amount (sum ∷ more))) ≡ eqb currency other || is_in other (codes (sum ∷ more))
    by (behind less e) later =
        ap (λ l. is_in other (codes l)) e
        ∙ ap (λ b. eqb sum.currency other || b) later
        ∙ swap (eqb sum.currency other) (eqb currency other) (is_in other (codes more))
    by (there same e) later =
        ap (λ l. is_in other (codes l)) e
        ∙ twice (eqb sum.currency other) (is_in other (codes more))
        ∙ ap (λ c. eqb c other || is_in other (codes (sum ∷ more))) same
    by (before less e) later = ap (λ l. is_in other (codes l)) e

  -- the amount is added to its sum
  absent : (low : ℕ) (sums : List Sum) → Ascending low (codes sums) → currency < low → sum_in currency sums ≡ 0
  unfolding sum_in
  absent low [] none l = refl
  absent low (sum ∷ more) (next h rest) l = rw (ne_eqb sum.currency currency (λ e. omega arith)) (absent (sum.currency + 1) more rest (omega arith))

  alone : amount ≤ largest → amount ≡ stopped (0 + amount)
  alone small = sym (as_is (0 + amount) (omega arith) ∙ omega arith)

  pub sold-here : amount ≤ largest → {low : ℕ} (sums : List Sum) → Ascending low (codes sums)
      → sum_in currency (sold currency amount sums) ≡ stopped (sum_in currency sums + amount)
  unfolding sold sum_in
  sold-here small [] none = rw (eq-eqb currency currency refl) (alone small)
  sold-here small {low = low} (sum ∷ more) (next h rest) = by (at currency amount sum more) (sold-here small {low = sum.currency + 1} more rest) where
    by : At currency amount sum more → sum_in currency (sold currency amount more) ≡ stopped (sum_in currency more + amount)
        → sum_in currency (sold currency amount (sum ∷ more)) ≡ stopped (sum_in currency (sum ∷ more) + amount)
    by (behind less e) later = rw (e, ne_eqb sum.currency currency (λ z. omega arith)) later
    by (there same e) later = rw (e, eq-eqb sum.currency currency same)
    by (before less e) later =
        let other = ne_eqb sum.currency currency (λ z. omega arith) in
        rw (e, eq-eqb currency currency refl, other, absent (sum.currency + 1) more rest (omega arith)) (alone small)

  pub sold_else : (other : ℕ) → (currency ≡ other → ⊥) → (sums : List Sum) → sum_in other (sold currency amount sums) ≡ sum_in other sums
  unfolding sold sum_in
  sold_else other apart [] = rw (ne_eqb currency other apart)
  sold_else other apart (sum ∷ more) = by (at currency amount sum more) (sold_else other apart more) where
    by : At currency amount sum more → sum_in other (sold currency amount more) ≡ sum_in other more
        → sum_in other (sold currency amount (sum ∷ more)) ≡ sum_in other (sum ∷ more)
    by (behind less e) later = rw e (ap (λ n. cond (eqb sum.currency other) sum.total n) later)
    by (there same e) later = rw (e, ne_eqb sum.currency other (λ z. apart (omega arith)))
    by (before less e) later = rw (e, ne_eqb currency other apart)

-- ---- two lists that ascend and list the same are one

pub below : (n : ℕ) {low : ℕ} {s : List ℕ} → Ascending low s → n < low → is_in n s ≡ false
unfolding is_in
below n none l = refl
below n (next {currency = m} h rest) l = rw (ne_eqb m n (λ e. omega arith)) (below n rest (omega arith))

first-is : (m : ℕ) (s : List ℕ) → is_in m (m ∷ s) ≡ true
unfolding is_in
first-is m s = rw (eq-eqb m m refl)

differ : (t : Bool) → t ≡ true → t ≡ false → ⊥
differ t e f = let z : ◌≡◌ {A = Bool} true false = cc in let w : ◌≡◌ {A = ℕ} 0 1 = cc in omega arith

-- the first of one is in the other, so it is not below the other's first
not_below : {low : ℕ} (m n : ℕ) (s t : List ℕ) → Ascending low (n ∷ t) → is_in m (m ∷ s) ≡ is_in m (n ∷ t) → m < n → ⊥
not_below m n s t (next h rest) e l = differ (is_in m (m ∷ s)) (first-is m s) (e ∙ below m (next {low = n} (omega arith) rest) l)

-- behind the same first
rest-same : (m n : ℕ) {s t : List ℕ} → Ascending (m + 1) s → Ascending (m + 1) t → is_in n (m ∷ s) ≡ is_in n (m ∷ t) → is_in n s ≡ is_in n t
unfolding is_in
rest-same m n {s} {t} a b e = by (eqb m n) refl e where
  by : (same : Bool) → eqb m n ≡ same → same || is_in n s ≡ same || is_in n t → is_in n s ≡ is_in n t
  by true q z = let here = eqb-true m n q in below n a (omega arith) ∙ sym (below n b (omega arith))
  by false q z = z

pub same_lists : {low : ℕ} (s t : List ℕ) → Ascending low s → Ascending low t → ((n : ℕ) → is_in n s ≡ is_in n t) → s ≡ t
same_lists [] [] a b same = refl
same_lists [] (n ∷ t) a b same = absurd (differ (is_in n (n ∷ t)) (first-is n t) (sym (same n) ∙ below n {low = n + 1} none (omega arith)))
same_lists (m ∷ s) [] a b same = absurd (differ (is_in m (m ∷ s)) (first-is m s) (same m ∙ below m {low = m + 1} none (omega arith)))
same_lists {low = low} (m ∷ s) (n ∷ t) (next h a) (next k b) same =
    let le = not_below m n s t (next k b) (same m) in
    let ge = not_below n m t s (next h a) (sym (same n)) in
    let e : n ≡ m = by (ltb m n) refl (ltb n m) refl le ge in
    let b' = subst (λ i. Ascending (i + 1) t) e b in
    ap₂ (λ i l. i ∷ l) (sym e) (same_lists {low = m + 1} s t a b' (λ i. rest-same m i a b' (same i ∙ ap (λ j. is_in i (j ∷ t)) e)))
  where
    by : (p : Bool) → ltb m n ≡ p → (q : Bool) → ltb n m ≡ q → (m < n → ⊥) → (n < m → ⊥) → n ≡ m
    by true e q f le ge = absurd (le (ltb-true m n e))
    by false e true f le ge = absurd (ge (ltb-true n m f))
    by false e false f le ge = omega (arith, ltb-false m n e, ltb-false n m f)
