-- Request Two's own words: what is refused, what is taken, and what never gets through. Assumes nothing.
use mathlib.Core.Path.{◌≡◌, refl, sym, ◌∙◌, subst}
use mathlib.Core.Bool.{Bool, true, false}
use Prim.Native.Nat.{ℕ, ◌+◌, ◌-◌, ◌*◌, ◌^◌, ◌≤◌, ◌<◌}
use native.Mathlib.Nat.{mul-one}
use native.Mathlib.Omega.{arith}
use lib.Dec.{T, leb}
use lib.Ieee.{Float, binary64, round, fits}
use lib.Ieee.Positive.{positive}
use borrow.Author.Tests.{leb-true, leb-false, le-leb, lt-leb}
use Rattle.rate.specs.Rate.{shift_at, rate_of}
use Rattle.rate.specs.Taken.{Quotient, Product, Taken, divided, multiplied}
use Rattle.rate.proofs.Names.{Names, nearest, names-positive}
use Rattle.rate.proofs.Exactly.{refused, taken, earliest}
use Rattle.std.specs.Prelude.{None, Option, Some}
use Rattle.rate.specs.declared.Pair.{Pair}

-- ---- a quotient is digits at a shift up to 9, a product digits at a shift above
quotient_nearest : (digits e shift : ℕ) → shift + e ≡ 9 → nearest digits shift ≡ round binary64 false digits (10 ^ e)
quotient_nearest digits e shift h =
    let none : shift - 9 ≡ 0 = omega arith in
    let is : 9 - shift ≡ e = omega arith in
    rw (none, is, mul-one digits)

product_nearest : (digits k : ℕ) → nearest digits (9 + k) ≡ round binary64 false (digits * 10 ^ k) 1
product_nearest digits k =
    let is : (9 + k) - 9 ≡ k = omega arith in
    let none : 9 - (9 + k) ≡ 0 = omega arith in
    rw (is, none)

pub place-quotient : (e : ℕ) → e ≤ 9 → shift_at (9 - e) ≡ e
place-quotient e h = simp (le-leb (9 - e) 9 (omega arith)) (omega arith)

place_product : (k : ℕ) → 1 ≤ k → shift_at (9 + k) ≡ 9 + k
place_product k h = simp (lt-leb (9 + k) 9 (omega arith))

module _ (rate : Float) where
  pub quotient-names : (digits e : ℕ) → Quotient rate digits e → Names rate digits (9 - e)
  quotient-names digits e q =
      let bound = q.bound in
      record {
        range = record { least = q.least; most = q.most; bound = omega arith };
        rounded = quotient_nearest digits e (9 - e) (omega arith) ∙ q.rounded;
      }

  product_names : (digits k : ℕ) → Product rate digits k → Names rate digits (9 + k)
  product_names digits k p =
      let bound = p.bound in
      record { range = record { least = p.least; most = p.most; bound = omega arith }; rounded = product_nearest digits k ∙ p.rounded }

  names-quotient : (digits shift : ℕ) → Names rate digits shift → shift ≤ 9 → Quotient rate digits (9 - shift)
  names-quotient digits shift n h =
      record {
        least = n.range.least;
        most = n.range.most;
        bound = omega arith;
        rounded = sym (quotient_nearest digits (9 - shift) shift (omega arith)) ∙ n.rounded;
      }

  names_product : (digits k : ℕ) → Names rate digits (9 + k) → 1 ≤ k → Product rate digits k
  names_product digits k n h =
      let bound = n.range.bound in
      record { least = n.range.least; most = n.range.most; some = h; bound = omega arith; rounded = sym (product_nearest digits k) ∙ n.rounded }

  -- a rate is refused exactly when no such pair exists
  pub rate-refused : rate_of rate ≡ None → ((digits e : ℕ) → Quotient rate digits e → ⊥) × ((digits k : ℕ) → Product rate digits k → ⊥)
  rate-refused h =
      ((λ digits e q. refused rate h digits (9 - e) (quotient-names digits e q)), λ digits k p. refused rate h digits (9 + k) (product_names digits k p))

  module _ (held : T (fits binary64 rate)) where
    pub rate-taken : (digits shift : ℕ) → rate_of rate ≡ Some (record { digits = digits; shift = shift }) → Taken rate digits shift
    rate-taken digits shift h = by (leb shift 9) refl where
      named : Names rate digits shift
      named = taken rate held digits shift h

      before : (digits' shift' : ℕ) → Names rate digits' shift' → shift_at shift ≤ shift_at shift'
      before = earliest rate digits shift h

      by : (b : Bool) → leb shift 9 ≡ b → Taken rate digits shift
      by true e =
          let small : shift ≤ 9 = leb-true shift 9 e in
          let here : shift_at shift ≡ 9 - shift = simp e in
          divided (9 - shift) (omega arith) (names-quotient digits shift named small)
          (λ digits' e' q.
          let bound = q.bound in
          let first = before digits' (9 - e') (quotient-names digits' e' q) in
          let there = place-quotient e' bound in
          omega arith)
      by false e =
          let large : 9 < shift = leb-false shift 9 e in
          let here : shift_at shift ≡ shift = simp e in
          let k = shift - 9 in
          let is : shift ≡ 9 + k = omega arith in
          multiplied k is (names_product digits k (subst (λ (s : ℕ). Names rate digits s) is named) (omega arith))
          (λ digits' e' q.
          let bound = q.bound in
          let first = before digits' (9 - e') (quotient-names digits' e' q) in
          let there = place-quotient e' bound in
          omega arith)
          (λ digits' k' p.
          let some = p.some in
          let first = before digits' (9 + k') (product_names digits' k' p) in
          let there = place_product k' some in
          omega arith)

    pub only-refused : ((digits e : ℕ) → Quotient rate digits e → ⊥) → ((digits k : ℕ) → Product rate digits k → ⊥) → rate_of rate ≡ None
    only-refused no-quotient no-product = by (rate_of rate) refl where
      by : (found : Option Pair) → rate_of rate ≡ found → rate_of rate ≡ None
      by None h = h
      by (Some pair) h = absurd (contradicts (rate-taken pair.digits pair.shift h)) where
        contradicts : Taken rate pair.digits pair.shift → ⊥
        contradicts (divided e s q f) = no-quotient pair.digits e q
        contradicts (multiplied k s p g f) = no-product pair.digits k p

    -- not-a-number, infinities, zeros of either sign and anything negative never get through
    pub never : (T (positive rate) → ⊥) → rate_of rate ≡ None
    never low = by (rate_of rate) refl where
      by : (found : Option Pair) → rate_of rate ≡ found → rate_of rate ≡ None
      by None h = h
      by (Some pair) h = absurd (low (names-positive rate pair.digits pair.shift (taken rate held pair.digits pair.shift h)))
