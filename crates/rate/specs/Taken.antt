-- What it is for a rate to be taken, in the request's own words; `round` is the float nearest to an exact fraction.
use Rattle.std.specs.Prelude.{◌≡◌, false, ℕ, ◌+◌, ◌*◌, ◌^◌, ◌≤◌, Float}
use Rattle.std.specs.Float.{binary64}
use Rattle.std.specs.Float.Ieee.{round}

-- digits 1 to 9,999 divided by 10 ^ e, e from 0 to 9, round to exactly that float
pub record Quotient (rate : Float) (digits e : ℕ) : Type 0 where
  pub least : 1 ≤ digits
  pub most : digits ≤ 9999
  pub bound : e ≤ 9
  pub rounded : round binary64 false digits (10 ^ e) ≡ rate

-- digits 1 to 9,999 times 10 ^ k, k from 1 to 3, are that float
pub record Product (rate : Float) (digits k : ℕ) : Type 0 where
  pub least : 1 ≤ digits
  pub most : digits ≤ 9999
  pub some : 1 ≤ k
  pub bound : k ≤ 3
  pub rounded : round binary64 false (digits * 10 ^ k) 1 ≡ rate

-- the smallest such e and shift -e; if there is none, the smallest such k and shift k. The shift is written as s + 9
pub data Taken (rate : Float) (digits shift : ℕ) : Type 0 where
  divided :
      (e : ℕ) → shift + e ≡ 9 → Quotient rate digits e → ((digits' e' : ℕ) → Quotient rate digits' e' → e ≤ e') → Taken rate digits shift
  multiplied :
      (k : ℕ) → shift ≡ 9 + k → Product rate digits k → ((digits' e' : ℕ) → Quotient rate digits' e' → ⊥)
      → ((digits' k' : ℕ) → Product rate digits' k' → k ≤ k')
      → Taken rate digits shift
