-- A float stands for one decimal: whatever digits and shifts name a rate, digits * 10 ^ shift is one number; so at a shift the digits are
-- unique. Assumes nothing.
use mathlib.Core.Path.{◌≡◌, refl, sym, ap, ◌∙◌}
use mathlib.Core.Bool.{Bool, true, false}
use Prim.Native.Nat.{ℕ, ◌+◌, ◌-◌, ◌*◌, ◌^◌, ◌≤◌, ◌<◌, min}
use native.Mathlib.Nat.{mul-one, mul_assoc, eq_of_mul-eq-mul_right}
use native.Mathlib.Omega.{arith}
use lib.Dec.{T, leb}
use lib.Pow.{pow-add}
use lib.Ieee.{Float, binary64, round}
use lib.Ieee.Positive.{positive}
use lib.Ieee.Scale.{round_same}
use borrow.Author.Tests.{leb-true, leb-false}
use Rattle.rate.proofs.Power.{ten_pos}
use Rattle.rate.proofs.Names.{InRange, Names, dividend, divisor, nearest, divisor_pos, divisor_le, dividend_le, nearest_positive}
use Rattle.rate.proofs.Apart.{same_dividend}

joined : (d i j k : ℕ) → i + j ≡ k → d * 10 ^ i * 10 ^ j ≡ d * 10 ^ k
joined d i j k e = mul_assoc d (10 ^ i) (10 ^ j) ∙ ap (λ (z : ℕ). d * z) (sym (pow-add 10 i j) ∙ ap (λ (z : ℕ). 10 ^ z) e)

-- at one shift: below 10 the divisor is at most 10 ^ 9 and the dividend at most 9,999; above, the divisor is 1
same_at : (digits shift other : ℕ) → InRange digits shift
    → nearest digits shift ≡ round binary64 false other (divisor shift) → dividend digits shift ≡ other
same_at digits shift other range same = by (leb shift 9) refl where
  some : 0 < divisor shift
  some = divisor_pos digits shift range

  above : T (positive (nearest digits shift))
  above = nearest_positive digits shift range

  by : (b : Bool) → leb shift 9 ≡ b → dividend digits shift ≡ other
  by true e =
      let small : shift ≤ 9 = leb-true shift 9 e in
      let most = range.most in
      let under = divisor_le digits shift range in
      let none : shift - 9 ≡ 0 = omega arith in
      let is : dividend digits shift ≡ digits = rw (none, mul-one digits) in
      same_dividend (divisor shift) 31 some (omega arith) (omega arith) (dividend digits shift) other (omega arith) above same
  by false e =
      let large : 9 < shift = leb-false shift 9 e in
      let most = dividend_le digits shift range in
      let none : 9 - shift ≡ 0 = omega arith in
      let is : divisor shift ≡ 1 = rw none in
      same_dividend (divisor shift) 1 some (omega arith) (omega arith) (dividend digits shift) other (omega arith) above same

-- the larger shift's fraction over the smaller one's divisor
lift : (digits shift low : ℕ) → low ≤ shift
    → nearest digits shift ≡ round binary64 false (dividend digits shift * 10 ^ ((9 - low) - (9 - shift))) (divisor low)
lift digits shift low h =
    let u = (9 - low) - (9 - shift) in
    let e : u + (9 - shift) ≡ 9 - low = omega arith in
    round_same binary64 false (dividend digits shift) (divisor shift) (dividend digits shift * 10 ^ u) (divisor low) (ten_pos (9 - shift)) (ten_pos (9 - low))
    (sym (joined (dividend digits shift) u (9 - shift) (9 - low) e))

module _ (rate : Float) where
  ordered : (digits shift digits' shift' : ℕ) → shift ≤ shift' → Names rate digits shift → Names rate digits' shift'
      → digits * 10 ^ shift ≡ digits' * 10 ^ shift'
  ordered digits shift digits' shift' h n n' =
      let m = min shift 9 in
      let u = (9 - shift) - (9 - shift') in
      let e : (shift - 9) + m ≡ shift = omega arith in
      let g : ((shift' - 9) + u) + m ≡ shift' = omega arith in
      let same : dividend digits shift ≡ dividend digits' shift' * 10 ^ u =
      same_at digits shift (dividend digits' shift' * 10 ^ u) n.range (n.rounded ∙ sym n'.rounded ∙ lift digits' shift' shift h) in
      sym (joined digits (shift - 9) m shift e)
      ∙ ap (λ (z : ℕ). z * 10 ^ m) (same ∙ joined digits' (shift' - 9) u ((shift' - 9) + u) refl)
      ∙ joined digits' ((shift' - 9) + u) m shift' g

  pub one-decimal : (digits shift digits' shift' : ℕ) → Names rate digits shift → Names rate digits' shift'
      → digits * 10 ^ shift ≡ digits' * 10 ^ shift'
  one-decimal digits shift digits' shift' n n' = by (leb shift shift') refl where
    by : (b : Bool) → leb shift shift' ≡ b → digits * 10 ^ shift ≡ digits' * 10 ^ shift'
    by true e = ordered digits shift digits' shift' (leb-true shift shift' e) n n'
    by false e =
        let l : shift' < shift = leb-false shift shift' e in
        sym (ordered digits' shift' digits shift (omega arith) n' n)

  pub one-digits : (digits digits' shift : ℕ) → Names rate digits shift → Names rate digits' shift → digits ≡ digits'
  one-digits digits digits' shift n n' = eq_of_mul-eq-mul_right (10 ^ shift) (ten_pos shift) digits digits' (one-decimal digits shift digits' shift n n')
