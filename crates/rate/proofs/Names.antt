-- Digits and a shift pass the code's test exactly when their fraction, rounded once, is the rate. Assumes nothing.
use mathlib.Core.Path.{◌≡◌, sym, ap, ◌∙◌, subst}
use mathlib.Core.Bool.{true, false}
use Prim.Native.Nat.{ℕ, ◌-◌, ◌*◌, ◌^◌, ◌≤◌, ◌<◌}
use native.Mathlib.Nat.{mul-pos, mul-le-mul}
use native.Mathlib.Omega.{arith}
use lib.Dec.{T}
use lib.Ieee.{Float, binary64, round, eq, fits}
use lib.Ieee.Bits.{is_true}
use lib.Ieee.Fits.{round-fits}
use lib.Ieee.Positive.{positive}
use Rattle.rate.specs.Rate.{quotient, rounds_to}
use Rattle.rate.proofs.Power.{ten_le, ten_pos}
use Rattle.rate.proofs.Rounding.{one_rounding, above_zero, self, equal_is}

-- the fraction of digits at a shift (the paper's s + 9): one of the two powers is 10 ^ 0
abbrev pub dividend : ℕ → ℕ → ℕ
dividend digits shift = digits * 10 ^ (shift - 9)

abbrev pub divisor : ℕ → ℕ
divisor shift = 10 ^ (9 - shift)

abbrev pub nearest : ℕ → ℕ → Float
nearest digits shift = round binary64 false (dividend digits shift) (divisor shift)

pub record InRange (digits shift : ℕ) : Type 0 where
  pub least : 1 ≤ digits
  pub most : digits ≤ 9999
  pub bound : shift ≤ 12

pub record Names (rate : Float) (digits shift : ℕ) : Type 0 where
  pub range : InRange digits shift
  pub rounded : nearest digits shift ≡ rate

module _ (digits shift : ℕ) (in_range_lem : InRange digits shift) where
  pub divisor_pos : 0 < divisor shift
  divisor_pos = ten_pos (9 - shift)

  pub divisor_le : divisor shift ≤ 1000000000
  divisor_le = let bound = in_range_lem.bound in ten_le (9 - shift) 9 (omega arith)

  pub dividend_le : dividend digits shift ≤ 9999000
  dividend_le = let bound = in_range_lem.bound in mul-le-mul in_range_lem.most (ten_le (shift - 9) 3 (omega arith))

  pub nearest_positive : T (positive (nearest digits shift))
  nearest_positive =
      let least : 0 < dividend digits shift = mul-pos in_range_lem.least (ten_pos (shift - 9)) in
      let most = dividend_le in
      let under = divisor_le in
      let some = divisor_pos in
      above_zero (dividend digits shift) (divisor shift) some (omega arith) (omega arith)

  is_nearest : quotient (dividend digits shift) (divisor shift) ≡ nearest digits shift
  is_nearest =
      let most = dividend_le in
      let under = divisor_le in
      one_rounding (dividend digits shift) (divisor shift) divisor_pos (omega arith) (omega arith)

  pub passes : (rate : Float) → nearest digits shift ≡ rate → rounds_to rate (10 ^ (shift - 9)) (10 ^ (9 - shift)) digits ≡ true
  passes rate e =
      ap (λ (z : Float). eq z rate) (is_nearest ∙ e) ∙ is_true (eq rate rate) (self rate (subst (λ (z : Float). T (positive z)) e nearest_positive))

  pub rounds : (rate : Float) → T (fits binary64 rate) → rounds_to rate (10 ^ (shift - 9)) (10 ^ (9 - shift)) digits ≡ true
      → nearest digits shift ≡ rate
  rounds rate f e =
      equal_is (nearest digits shift) rate nearest_positive (round-fits binary64 false (dividend digits shift) (divisor shift)) f
      (subst T (sym e ∙ ap (λ (z : Float). eq z rate) is_nearest) tt)

pub names-positive : (rate : Float) (digits shift : ℕ) → Names rate digits shift → T (positive rate)
names-positive rate digits shift n = subst (λ (z : Float). T (positive z)) n.rounded (nearest_positive digits shift n.range)
