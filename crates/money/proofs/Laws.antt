-- What conversion is, said apart from its definition. Assumes nothing.
use mathlib.Core.Path.{◌≡◌, refl, sym, ap, subst, ◌∙◌}
use mathlib.Core.Bool.{Bool, true, false, cond, ◌&&◌}
use mathlib.Core.List.{List, [], ◌∷◌}
use Prim.Native.Nat.{ℕ, zero, suc, ◌+◌, ◌-◌, ◌*◌, ◌%◌, ◌^◌, ◌≤◌, ◌<◌}
use native.Mathlib.Nat.{div-mul-le_self, div-add-mod', mod-lt, mul-le-mul_right, le_trans, le-div_iff_mul-le}
use native.Mathlib.Omega.{arith}
use borrow.Author.Tests.{lt-ltb, ltb-true, ltb-false, eq-eqb, ne_eqb, eqb-true}
use lib.Dec.{ltb, eqb}
use lib.ListN.{get_or}
use Rattle.money.specs.declared.Rate.{Rate}
use Rattle.money.specs.declared.Rates.{Rates}
use Rattle.money.specs.declared.TransactionAmount.{TransactionAmount}
use Rattle.money.specs.declared.Converted.{Converted}
use Rattle.money.specs.declared.Converted.TheVariants.{Amount, Over, NoEntry}
use Rattle.money.specs.Money.{max, stopped, blank, is_for, rate_for, is_rate, rounded, scaled, amount_of, amount_or_over, convert_of}
use Rattle.money.proofs.Power.{ten_pos, divides, multiplies, stays, stopped-most}

-- an entry leads from the one currency to the other
abbrev pub Leads : Rate → ℕ → ℕ → Type 0
Leads rate from to = (rate.from ≡ from) × (rate.to ≡ to)

-- place k of a table is the first entry for the pair
pub record First (entries : List Rate) (from to k : ℕ) : Type 0 where
  pub within : k < 5
  pub here : Leads (get_or entries k blank) from to
  pub before : (j : ℕ) → j < k → Leads (get_or entries j blank) from to → ⊥

-- no entry of a table is for the pair
abbrev pub Missing : List Rate → ℕ → ℕ → Type 0
Missing entries from to = (k : ℕ) → k < 5 → Leads (get_or entries k blank) from to → ⊥

leads : (rate : Rate) (from to : ℕ) → Leads rate from to → is_for rate from to ≡ true
leads rate from to l = simp (eq-eqb _ _ l.0, eq-eqb _ _ l.1)

leads_not : (rate : Rate) (from to : ℕ) → (Leads rate from to → ⊥) → is_for rate from to ≡ false
leads_not rate from to n = by (eqb rate.from from) refl (eqb rate.to to) refl where
  by : (a : Bool) → eqb rate.from from ≡ a → (b : Bool) → eqb rate.to to ≡ b → (a && b) ≡ false
  by true p true q = absurd (n (eqb-true _ _ p, eqb-true _ _ q))
  by true p false q = refl
  by false p b q = refl

module _ (entries : List Rate) (from to : ℕ) where
  reach : (k i n : ℕ) → First entries from to k → i ≤ k → k < i + n → rate_for entries from to i n ≡ get_or entries k blank
  unfolding rate_for
  reach k i zero f h l = let z : ⊥ = omega arith in absurd z
  reach k i (suc n) f h l = at_place (ltb i k) refl (λ p. reach k (suc i) n f p (omega arith)) where
    at_place : (b : Bool) → ltb i k ≡ b → (i < k → rate_for entries from to (suc i) n ≡ get_or entries k blank)
        → rate_for entries from to i (suc n) ≡ get_or entries k blank
    at_place true e r = rw (leads_not (get_or entries i blank) from to (f.before i (ltb-true i k e))) (r (ltb-true i k e))
    at_place false e r = let s : i ≡ k = omega (arith, ltb-false i k e) in rw (s, leads (get_or entries k blank) from to f.here)

  missed : (i n : ℕ) → i + n ≤ 5 → Missing entries from to → rate_for entries from to i n ≡ blank
  unfolding rate_for
  missed i zero h m = refl
  missed i (suc n) h m = rw (leads_not (get_or entries i blank) from to (m i (omega arith))) (missed (suc i) n (omega arith) m)

-- the amount itself in its own currency
pub same-currency : (rates : Rates) (currency a : ℕ) → a ≤ max
    → convert_of (record { 0 = a }) currency currency rates ≡ amount_of a
unfolding convert_of
same-currency rates currency a h = simp (eq-eqb currency currency refl, stays a h)

-- a pair without an entry does not count, whatever the reversed pair says
pub no_entry : (rates : Rates) (from to a : ℕ) → (from ≡ to → ⊥) → Missing rates.entries from to
    → convert_of (record { 0 = a }) from to rates ≡ NoEntry
unfolding convert_of
no_entry rates from to a d m = simp (ne_eqb from to d, missed rates.entries from to 0 5 (omega arith) m)

-- over exactly above MAX
above-over : (n : ℕ) → max < n → amount_or_over n ≡ Over
above-over n h = simp (lt-ltb max n h)

over-above : (n : ℕ) → amount_or_over n ≡ Over → max < n
over-above n e = by (ltb max n) refl e where
  by : (b : Bool) → ltb max n ≡ b → cond b Over (amount_of n) ≡ Over → max < n
  by true p e = ltb-true max n p
  by false p e = let z : ◌≡◌ {A = ℕ} 0 1 = cc in absurd (omega arith)

-- how far a quotient q of n / k is from the exact one, in whole numbers, by the rule: n + r (k - 1) = q k + remainder, where r is 1 if
-- a fraction is rounded up and 0 if it is dropped
pub record Distance (up : Bool) (n k q : ℕ) : Type 0 where
  pub remainder : ℕ
  pub exact : n + cond up (k - 1) 0 ≡ q * k + remainder
  pub below : remainder < k

distance_of : (up : Bool) (n k : ℕ) → 0 < k → Distance up n k (rounded up n k)
unfolding rounded
distance_of up n k h =
    let m = n + cond up (k - 1) 0 in
    record { remainder = m % k; exact = sym (div-add-mod' m k); below = mod-lt m h }

-- rounded up, q is never less than the exact quotient
covers : (n k q : ℕ) → Distance true n k q → n ≤ q * k
covers n k q d = omega (arith, d.exact, d.below)

-- n / 10^m by the rule, over above MAX
pub data Quotient (up : Bool) (n m : ℕ) : Converted → Type 0 where
  within : (q : ℕ) → q ≤ max → Distance up n (10 ^ m) q → Quotient up n m (amount_of q)
  over : (max + 1) * 10 ^ m ≤ n + cond up (10 ^ m - 1) 0 → Quotient up n m Over

-- n x 10^m, over above MAX
pub data Product (n m : ℕ) : Converted → Type 0 where
  within : n * 10 ^ m ≤ max → Product n m (amount_of (n * 10 ^ m))
  over : max < n * 10 ^ m → Product n m Over

-- the quotient by the rule is above MAX
max-below : (up : Bool) (n m : ℕ) → (max < rounded up n (10 ^ m) → (max + 1) * 10 ^ m ≤ n + cond up (10 ^ m - 1) 0)
    × ((max + 1) * 10 ^ m ≤ n + cond up (10 ^ m - 1) 0 → max < rounded up n (10 ^ m))
unfolding rounded
max-below up n m = (λ h. (le-div_iff_mul-le (ten_pos m)).0 h, λ h. (le-div_iff_mul-le (ten_pos m)).1 h)

quotient : (up : Bool) (n m : ℕ) → Quotient up n m (amount_or_over (rounded up n (10 ^ m)))
quotient up n m = by (ltb max (rounded up n (10 ^ m))) refl where
  by : (b : Bool) → ltb max (rounded up n (10 ^ m)) ≡ b → Quotient up n m (cond b Over (amount_of (rounded up n (10 ^ m))))
  by true e = over ((max-below up n m).0 (ltb-true max (rounded up n (10 ^ m)) e))
  by false e = within (rounded up n (10 ^ m)) (ltb-false max (rounded up n (10 ^ m)) e) (distance_of up n (10 ^ m) (ten_pos m))

product : (n m : ℕ) → Product n m (amount_or_over (n * 10 ^ m))
product n m = by (ltb max (n * 10 ^ m)) refl where
  by : (b : Bool) → ltb max (n * 10 ^ m) ≡ b → Product n m (cond b Over (amount_of (n * 10 ^ m)))
  by true e = over (ltb-true max (n * 10 ^ m) e)
  by false e = within (ltb-false max (n * 10 ^ m) e)

abbrev pub entry : Rates → ℕ → Rate
entry rates k = get_or rates.entries k blank

-- the number in an amount
value : Converted → ℕ
value (Amount a) = a.0
value Over = 0
value NoEntry = 0

-- an answer that is an amount is that amount, and within MAX
amount-within : (n q : ℕ) → amount_or_over n ≡ amount_of q → (n ≡ q) × (n ≤ max)
unfolding value
amount-within n q e = by (ltb max n) refl e where
  by : (b : Bool) → ltb max n ≡ b → cond b Over (amount_of n) ≡ amount_of q → (n ≡ q) × (n ≤ max)
  by true p e = let z : ◌≡◌ {A = ℕ} 0 1 = cc in absurd (omega arith)
  by false p e = (ap value e, ltb-false max n p)

-- by the entry for the pair: for s < 0 the quotient by the rule, from s = 0 on the exact product; over exactly where that is above MAX
module _ (rates : Rates) (from to k a : ℕ) (other : from ≡ to → ⊥) (small : a ≤ max) (first : First rates.entries from to k)
    (good : is_rate (entry rates k) ≡ true) where
  abbrev n : ℕ
  n = a * (entry rates k).digits

  abbrev t : ℕ
  t = (entry rates k).shift

  abbrev up : Bool
  up = rates.up

  abbrev answer : Converted
  answer = convert_of (record { 0 = a }) from to rates

  by-entry : answer ≡ amount_or_over (scaled up a (entry rates k))
  unfolding convert_of
  by-entry = simp (ne_eqb from to other, reach rates.entries from to k 0 5 first (omega arith) first.within, good, stays a small)

  by-quotient : t ≤ 9 → answer ≡ amount_or_over (rounded up n (10 ^ (9 - t)))
  unfolding scaled
  by-quotient h = by-entry ∙ ap amount_or_over (sym (divides up n t (9 - t) (omega arith)))

  by_product : 9 ≤ t → answer ≡ amount_or_over (n * 10 ^ (t - 9))
  unfolding scaled
  by_product h = by-entry ∙ ap amount_or_over (sym (multiplies up n t (t - 9) (omega arith)))

  pub divided : t ≤ 9 → Quotient up n (9 - t) answer
  divided h = subst (Quotient up n (9 - t)) (sym (by-quotient h)) (quotient up n (9 - t))

  pub multiplied : 9 ≤ t → Product n (t - 9) answer
  multiplied h = subst (Product n (t - 9)) (sym (by_product h)) (product n (t - 9))

  pub over_if_divided : t ≤ 9 → (answer ≡ Over → (max + 1) * 10 ^ (9 - t) ≤ n + cond up (10 ^ (9 - t) - 1) 0)
      × ((max + 1) * 10 ^ (9 - t) ≤ n + cond up (10 ^ (9 - t) - 1) 0 → answer ≡ Over)
  over_if_divided h = (
    λ e. (max-below up n (9 - t)).0 (over-above (rounded up n (10 ^ (9 - t))) (sym (by-quotient h) ∙ e)),
    λ l. by-quotient h ∙ above-over (rounded up n (10 ^ (9 - t))) ((max-below up n (9 - t)).1 l),
  )

  pub over_if_multiplied : 9 ≤ t → (answer ≡ Over → max < n * 10 ^ (t - 9)) × (max < n * 10 ^ (t - 9) → answer ≡ Over)
  over_if_multiplied h = (λ e. over-above (n * 10 ^ (t - 9)) (sym (by_product h) ∙ e), λ l. by_product h ∙ above-over (n * 10 ^ (t - 9)) l)

  -- THE DISTANCE from the exact quotient, for both rules
  pub distance : t ≤ 9 → (q : ℕ) → answer ≡ amount_of q → Distance up n (10 ^ (9 - t)) q
  distance h q e =
      subst (Distance up n (10 ^ (9 - t))) (amount-within (rounded up n (10 ^ (9 - t))) q (sym (by-quotient h) ∙ e)).0
      (distance_of up n (10 ^ (9 - t)) (ten_pos (9 - t)))

  -- by the rule that rounds up a card never counts less than was spent
  pub never_less_than_spent : t ≤ 9 → up ≡ true → (q : ℕ) → answer ≡ amount_of q → n ≤ q * 10 ^ (9 - t)
  never_less_than_spent h r q e = covers n (10 ^ (9 - t)) q (subst (λ rule. Distance rule n (10 ^ (9 - t)) q) r (distance h q e))

-- no answer is an amount above MAX
pub never_above_max : (amount : TransactionAmount) (from to : ℕ) (rates : Rates) (q : ℕ)
    → convert_of amount from to rates ≡ amount_of q → q ≤ max
unfolding convert_of value
never_above_max amount from to rates q e = by (eqb from to) (is_rate rate) e where
  rate : Rate
  rate = rate_for rates.entries from to 0 5

  by : (same good : Bool)
      → cond same (amount_of (stopped amount.0)) (cond good (amount_or_over (scaled rates.up (stopped amount.0) rate)) NoEntry) ≡ amount_of q
      → q ≤ max
  by true good e = let s : stopped amount.0 ≡ q = ap value e in rw (← s) (stopped-most amount.0)
  by false true e = let w = amount-within (scaled rates.up (stopped amount.0) rate) q e in rw (← w.0) w.1
  by false false e = let z : ◌≡◌ {A = ℕ} 0 1 = cc in absurd (omega arith)

stopped_grows : (m n : ℕ) → m ≤ n → stopped m ≤ stopped n
stopped_grows m n h = by (ltb max n) refl where
  by : (b : Bool) → ltb max n ≡ b → stopped m ≤ cond b max n
  by true e = stopped-most m
  by false e = rw (stays m (le_trans h (ltb-false max n e))) h

scaled_grows : (up : Bool) (a b : ℕ) (rate : Rate) → a ≤ b → scaled up a rate ≤ scaled up b rate
unfolding scaled rounded
scaled_grows up a b rate h =
    let x = a * rate.digits * 10 ^ rate.shift in
    let y = b * rate.digits * 10 ^ rate.shift in
    let spare = cond up (10 ^ 9 - 1) 0 in
    let more : x ≤ y = mul-le-mul_right (10 ^ rate.shift) (mul-le-mul_right rate.digits h) in
    let sum : x + spare ≤ y + spare = omega (arith, more) in
    (le-div_iff_mul-le (ten_pos 9)).1 (le_trans (div-mul-le_self (x + spare) (10 ^ 9)) sum)

-- a larger amount never converts to less, and is over where a smaller one is
module _ (a b : TransactionAmount) (from to : ℕ) (rates : Rates) (more : a.0 ≤ b.0) where
  rate : Rate
  rate = rate_for rates.entries from to 0 5

  abbrev by-rate : Bool → Bool → ℕ → Converted
  by-rate same good n = cond same (amount_of n) (cond good (amount_or_over (scaled rates.up n rate)) NoEntry)

  grows : stopped a.0 ≤ stopped b.0
  grows = stopped_grows a.0 b.0 more

  pub never_less : (p q : ℕ) → convert_of a from to rates ≡ amount_of p → convert_of b from to rates ≡ amount_of q → p ≤ q
  unfolding convert_of value rate
  never_less p q ea eb = both_ways (eqb from to) (is_rate rate) ea eb where
    both_ways : (same good : Bool) → by-rate same good (stopped a.0) ≡ amount_of p → by-rate same good (stopped b.0) ≡ amount_of q → p ≤ q
    both_ways true good e f =
        let x : stopped a.0 ≡ p = ap value e in
        let y : stopped b.0 ≡ q = ap value f in
        rw (← x, ← y) grows
    both_ways false true e f =
        let x = (amount-within (scaled rates.up (stopped a.0) rate) p e).0 in
        let y = (amount-within (scaled rates.up (stopped b.0) rate) q f).0 in
        rw (← x, ← y) (scaled_grows rates.up _ _ rate grows)
    both_ways false false e f = let z : p ≡ q = cc in omega arith

  pub over_stays : convert_of a from to rates ≡ Over → convert_of b from to rates ≡ Over
  unfolding convert_of rate
  over_stays e = by (eqb from to) (is_rate rate) e where
    by : (same good : Bool) → by-rate same good (stopped a.0) ≡ Over → by-rate same good (stopped b.0) ≡ Over
    by true good e = let z : ◌≡◌ {A = ℕ} 0 1 = cc in absurd (omega arith)
    by false true e = above-over _ (le_trans (over-above _ e) (scaled_grows rates.up _ _ rate grows))
    by false false e = let z : ◌≡◌ {A = ℕ} 0 1 = cc in absurd (omega arith)

-- edges c, d and e of document 01, with request Nine's values under the rule that rounds up
abbrev pub one-rate : Bool → ℕ → ℕ → Rates
one-rate up d t = record { entries = record { from = 1; to = 2; digits = d; shift = t } ∷ blank ∷ blank ∷ blank ∷ blank ∷ []; up = up }

pub record Edges : Type 0 where
  pub c : convert_of (record { 0 = 12345 }) 1 2 (one-rate false 1234 6) ≡ amount_of 15233
  pub c_up : convert_of (record { 0 = 12345 }) 1 2 (one-rate true 1234 6) ≡ amount_of 15234
  pub d : (up : Bool) → convert_of (record { 0 = max }) 1 2 (one-rate up 9999 12) ≡ Over
  pub e : convert_of (record { 0 = 1 }) 1 2 (one-rate false 4 8) ≡ amount_of 0
  pub e_up : convert_of (record { 0 = 1 }) 1 2 (one-rate true 4 8) ≡ amount_of 1

over_edge : (up : Bool) → convert_of (record { 0 = max }) 1 2 (one-rate up 9999 12) ≡ Over
unfolding convert_of rate_for scaled rounded
over_edge true = refl
over_edge false = refl

pub edges : Edges
unfolding convert_of rate_for scaled rounded
edges = record { c = refl; c_up = refl; d = over_edge; e = refl; e_up = refl }
