-- A rate is refused exactly when no pair names it, and the pair given is the first in the order of trial. Assumes nothing.
use mathlib.Core.Path.{◌≡◌, refl, sym, ap, ◌∙◌}
use mathlib.Core.Bool.{Bool, true, false, true≢false}
use Prim.Native.Nat.{ℕ, ◌-◌, ◌^◌, ◌≤◌, ◌<◌}
use native.Mathlib.Omega.{arith}
use lib.Dec.{T, leb, ltb}
use lib.Ieee.{Float, binary64, fits}
use borrow.Author.Tests.{ltb-true, ltb-false, leb-true, leb-false, le-leb}
use Rattle.rate.specs.Rate.{rounds_to, digits_of, digits_at, shift_at, has_digits, place, pair_at, rate_of}
use Rattle.rate.proofs.Search.{First, is-first}
use Rattle.rate.proofs.Names.{InRange, Names, passes, rounds}
use Rattle.rate.specs.declared.Pair.{Pair}
use Rattle.std.specs.Prelude.{None, Some}

-- the place of a shift in the order of trial; shift_at leads there and back
pub record Placed (shift : ℕ) : Type 0 where
  pub bound : shift_at shift ≤ 12
  pub back : shift_at (shift_at shift) ≡ shift

pub placed : (shift : ℕ) → shift ≤ 12 → Placed shift
placed shift h = by (leb shift 9) refl where
  by : (b : Bool) → leb shift 9 ≡ b → Placed shift
  by true e =
      let small : shift ≤ 9 = leb-true shift 9 e in
      record { bound = simp e (omega arith); back = simp (e, le-leb (9 - shift) 9 (omega arith)) (omega arith) }
  by false e = record { bound = simp e h; back = simp e }

-- ---- the two searches
digits-first : (rate : Float) (shift : ℕ) → First (rounds_to rate (10 ^ (shift - 9)) (10 ^ (9 - shift))) 9999 1 (digits_at rate shift)
unfolding digits_at digits_of
digits-first rate shift = is-first (rounds_to rate (10 ^ (shift - 9)) (10 ^ (9 - shift))) 9999 1

place-first : (rate : Float) → First (has_digits rate) 13 0 (place rate)
unfolding place
place-first rate = is-first (has_digits rate) 13 0

-- ---- no pair at a shift without digits, so none at a place that was passed
no_pair : (rate : Float) (digits shift : ℕ) → 9999 < digits_at rate shift → Names rate digits shift → ⊥
no_pair rate digits shift h n =
    let r = n.range in
    let most = r.most in
    true≢false (sym (passes digits shift r rate n.rounded) ∙ (digits-first rate shift).missed digits r.least (omega arith))

not_passed : (rate : Float) (digits shift : ℕ) → Names rate digits shift → shift_at shift < place rate → ⊥
not_passed rate digits shift n h =
    let there = placed shift n.range.bound in
    let none = ap (λ (t : ℕ). leb (digits_at rate t) 9999) (sym there.back) ∙ (place-first rate).missed (shift_at shift) (omega arith) h in
    no_pair rate digits shift (leb-false (digits_at rate shift) 9999 none) n

-- ---- what the answer tells of the place
some_same : {a b : Pair} → Some a ≡ Some b → a ≡ b
some_same {a} {b} e = cc

-- the pair at the first place
abbrev first : Float → Pair
first rate = record { digits = digits_at rate (shift_at (place rate)); shift = shift_at (place rate) }

differ : (pair : Pair) → Some pair ≡ None → ⊥
differ pair e = cc

record Told (rate : Float) (digits shift : ℕ) : Type 0 where
  early : place rate < 13
  first-digits : digits ≡ digits_at rate shift
  first-place : shift ≡ shift_at (place rate)

told : (rate : Float) (digits shift : ℕ) → rate_of rate ≡ Some (record { digits = digits; shift = shift }) → Told rate digits shift
unfolding rate_of
told rate digits shift = by (ltb (place rate) 13) refl where
  given : Pair
  given = record { digits = digits; shift = shift }

  by : (b : Bool) → ltb (place rate) 13 ≡ b → pair_at rate (place rate) ≡ Some given → Told rate digits shift
  by true e h =
      let is : given ≡ first rate = some_same (sym h ∙ simp e) in
      let s : shift ≡ shift_at (place rate) = ap (λ (p : Pair). p.shift) is in
      let d : digits ≡ digits_at rate (shift_at (place rate)) = ap (λ (p : Pair). p.digits) is in
      record { early = ltb-true (place rate) 13 e; first-digits = d ∙ ap (λ (t : ℕ). digits_at rate t) (sym s); first-place = s }
  by false e h = absurd (differ given (sym h ∙ simp e))

none_told : (rate : Float) → rate_of rate ≡ None → 13 ≤ place rate
unfolding rate_of
none_told rate = by (ltb (place rate) 13) refl where
  by : (b : Bool) → ltb (place rate) 13 ≡ b → pair_at rate (place rate) ≡ None → 13 ≤ place rate
  by true e h = absurd (differ (first rate) (sym (simp e) ∙ h))
  by false e h = ltb-false (place rate) 13 e

-- ---- the theorems, over the shift's byte
pub refused : (rate : Float) → rate_of rate ≡ None → (digits shift : ℕ) → Names rate digits shift → ⊥
refused rate h digits shift n =
    let late = none_told rate h in
    let there = (placed shift n.range.bound).bound in
    not_passed rate digits shift n (omega arith)

pub taken : (rate : Float) → T (fits binary64 rate) → (digits shift : ℕ) → rate_of rate ≡ Some (record { digits = digits; shift = shift }) → Names rate digits shift
taken rate f digits shift h =
    let t = told rate digits shift h in
    let early = t.early in
    let some : has_digits rate (place rate) ≡ true = (place-first rate).passes early in
    let most : digits_at rate shift ≤ 9999 = leb-true _ _ (ap (λ (s : ℕ). leb (digits_at rate s) 9999) t.first-place ∙ some) in
    let search = digits-first rate shift in
    let low = search.low in
    let same = t.first-digits in
    let bound : shift ≤ 12 = rw t.first-place (placed (place rate) (omega arith)).bound in
    let range : InRange digits shift = record { least = omega arith; most = omega arith; bound = bound } in
    record { range = range; rounded = rounds digits shift range rate f (rw same (search.passes (omega arith))) }

unless : (a b : ℕ) → (b < a → ⊥) → (t : Bool) → ltb b a ≡ t → a ≤ b
unless a b h true e = absurd (h (ltb-true b a e))
unless a b h false e = ltb-false b a e

pub earliest : (rate : Float) (digits shift : ℕ) → rate_of rate ≡ Some (record { digits = digits; shift = shift }) → (digits' shift' : ℕ) → Names rate digits' shift'
    → shift_at shift ≤ shift_at shift'
earliest rate digits shift h digits' shift' n =
    let t = told rate digits shift h in
    let early = t.early in
    let here : shift_at shift ≡ place rate = rw t.first-place (placed (place rate) (omega arith)).back in
    rw here (unless (place rate) (shift_at shift') (not_passed rate digits' shift' n) (ltb (shift_at shift') (place rate)) refl)
