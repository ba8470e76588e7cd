-- Laws of powers of ten, for conversion. Assumes nothing.
use mathlib.Core.Path.{◌≡◌, refl, sym, ap, ap₂, ◌∙◌}
use Prim.Native.Nat.{ℕ, zero, suc, ◌+◌, ◌-◌, ◌*◌, ◌/◌, ◌^◌, ◌≤◌, ◌<◌}
use native.Mathlib.Nat.{add-zero, add-mul, suc-mul, one-mul, mul_comm, mul_assoc, mul-le-mul, mul-div-mul_right, div-one, div-div-eq-div-mul}
use native.Mathlib.Nat.{pow-le-pow_right, lt_of_le_of_lt}
use native.Mathlib.Omega.{arith}
use lib.Pow.{pow-add}
use lib.Arith.{digits_div}
use lib.Dec.{ltb, leb, lit<}
use borrow.Author.Tests.{le-ltb, ltb-false, leb-true}
use mathlib.Core.Bool.{Bool, true, false, cond, ◌&&◌}
use Rattle.money.specs.Money.{max, stopped, is_rate, rounded}
use Rattle.money.specs.declared.Rate.{Rate}
use Rattle.wire.proofs.Pairs.{both}

pub ten_pos : (k : ℕ) → 0 < 10 ^ k
ten_pos k = pow-le-pow_right (lit< tt) {i = 0} {j = k} (omega arith)

-- n and k taken j times over have the same quotient, dropped or rounded up
pub rounded-scaled : (up : Bool) (n k j : ℕ) → 0 < k → 0 < j → rounded up (n * j) (k * j) ≡ rounded up n k
unfolding rounded
rounded-scaled false n k j hk hj = simp add-zero (mul-div-mul_right n k hj)
rounded-scaled true n zero j hk hj = absurd (omega arith)
rounded-scaled true n (suc k) j hk hj =
    let sum : n * j + (suc k * j - 1) ≡ (n + k) * j + (j - 1) = omega (arith, suc-mul k j, add-mul n k j) in
    let less : k ≡ suc k - 1 = omega arith in
    ap (λ (m : ℕ). m / (suc k * j)) sum
    ∙ ap (λ (m : ℕ). ((n + k) * j + (j - 1)) / m) (mul_comm (suc k) j)
    ∙ sym (div-div-eq-div-mul ((n + k) * j + (j - 1)) j (suc k))
    ∙ ap (λ (m : ℕ). m / suc k) (digits_div (n + k) {m = j} {r = j - 1} (omega arith))
    ∙ ap (λ (m : ℕ). (n + m) / suc k) less

-- a whole quotient is not rounded
pub rounded-one : (up : Bool) (n : ℕ) → rounded up n 1 ≡ n
unfolding rounded
rounded-one true n = rw add-zero (div-one n)
rounded-one false n = rw add-zero (div-one n)

-- below the ninth power the shift divides
pub divides : (up : Bool) (n t k : ℕ) → k + t ≡ 9 → rounded up n (10 ^ k) ≡ rounded up (n * 10 ^ t) (10 ^ 9)
divides up n t k e =
    sym (rounded-scaled up n (10 ^ k) (10 ^ t) (ten_pos k) (ten_pos t)) ∙ ap (rounded up (n * 10 ^ t)) (sym (pow-add 10 k t) ∙ ap (◌^◌ 10) e)

-- from the ninth power on it multiplies
pub multiplies : (up : Bool) (n t k : ℕ) → k + 9 ≡ t → n * 10 ^ k ≡ rounded up (n * 10 ^ t) (10 ^ 9)
multiplies up n t k e =
    sym (rounded-one up (n * 10 ^ k))
    ∙ sym (rounded-scaled up (n * 10 ^ k) 1 (10 ^ 9) (omega arith) (ten_pos 9))
    ∙ ap₂ (rounded up) (mul_assoc n (10 ^ k) (10 ^ 9) ∙ ap (◌*◌ n) (sym (pow-add 10 k 9) ∙ ap (◌^◌ 10) e)) (one-mul (10 ^ 9))

-- the products of conversion fit 64 bits, with what rounding adds
pub product_most : {a d : ℕ} → a ≤ max → d ≤ 9999 → a * d ≤ 9998999999990001
product_most ha hd = mul-le-mul ha hd

pub power_most : {k : ℕ} → k ≤ 9 → 10 ^ k ≤ 1000000000
power_most {k = k} hk = pow-le-pow_right {n = 10} (lit< tt) {i = k} {j = 9} hk

pub shift_fits : {n k : ℕ} → n ≤ 9998999999990001 → k ≤ 3 → n * 10 ^ k < 2 ^ 64
shift_fits {k = k} hn hk = lt_of_le_of_lt (mul-le-mul hn (pow-le-pow_right {n = 10} (lit< tt) {i = k} {j = 3} hk)) (lit< tt)

pub stays : (n : ℕ) → n ≤ max → stopped n ≡ n
stays n h = simp (le-ltb max n h)

pub stopped-most : (n : ℕ) → stopped n ≤ max
stopped-most n = by (ltb max n) refl where
  by : (b : Bool) → ltb max n ≡ b → cond b max n ≤ max
  by true e = omega arith
  by false e = ltb-false max n e

pub rate_bounds : (rate : Rate) → is_rate rate ≡ true → (rate.digits ≤ 9999) × (rate.shift ≤ 12)
rate_bounds rate e =
    let digits = both (leb 1 rate.digits && leb rate.digits 9999) (leb rate.shift 12) e in
    (leb-true _ _ (both (leb 1 rate.digits) _ digits.0).1, leb-true _ _ digits.1)
