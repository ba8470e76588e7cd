-- Fractions of one divisor that are far enough apart round to different floats: two floats lie between them. Assumes nothing.
use mathlib.Core.Path.{◌≡◌, refl, sym, ap, ◌∙◌, subst}
use mathlib.Core.Bool.{Bool, true, false}
use Prim.Native.Nat.{ℕ, suc, ◌+◌, ◌-◌, ◌*◌, ◌/◌, ◌%◌, ◌^◌, ◌≤◌, ◌<◌}
use native.Mathlib.Nat.{lt_of_lt_of_le, zero-lt-suc, mul_assoc, mul-le-mul_right, suc-mul, div-add-mod', mod-lt, div-le_self}
use native.Mathlib.Omega.{arith}
use lib.Dec.{T, ltb}
use lib.Pow.{pow_pos, pow-add, pow_mono, shl_lt}
use lib.Ieee.{Float, binary64, round, le}
use lib.Ieee.Exact.{HasValue, round_exact}
use lib.Ieee.Order.{round_mono}
use lib.Ieee.Positive.{positive, values_of_le, le_trans_positive, positive_of_value}
use borrow.Author.Tests.{ltb-true, ltb-false}

-- multiples of 2 ^ -k are floats
exact_at : (q k : ℕ) → k ≤ 1074 → q < 9007199254740992 → HasValue (round binary64 false q (2 ^ k)) false q (2 ^ k)
exact_at q k h small =
    let e : (1074 - k) + k ≡ 1074 = omega arith in
    round_exact binary64 false q (2 ^ k) q (1074 - k) (pow_pos k) small
    (lt_of_lt_of_le (shl_lt 53 (1074 - k) small) (pow_mono {i = 53 + (1074 - k)} {j = 2098} (omega arith)))
    (ap (λ (z : ℕ). q * 2 ^ z) (sym e) ∙ ap (λ (z : ℕ). q * z) (pow-add 2 (1074 - k) k) ∙ sym (mul_assoc q (2 ^ (1074 - k)) (2 ^ k)))

-- with w = a * 2 ^ k and w' = a' * 2 ^ k, the next two multiples above a / b lie below a' / b
between_them : (w q b r w' s : ℕ) → q * b + r ≡ w → r < b → b + b ≤ s → w + s ≤ w' → (w ≤ suc q * b) × (suc (suc q) * b ≤ w')
between_them w q b r w' s e l f g =
    let one : suc q * b ≡ q * b + b = suc-mul q b in
    let two : suc (suc q) * b ≡ suc q * b + b = suc-mul (suc q) b in
    (omega arith, omega arith)

module _ (b k : ℕ) (some : 0 < b) (fine : b + b ≤ 2 ^ k) (bound : k ≤ 1074) where
  gap : (a a' : ℕ) → a < a' → a * 2 ^ k + 2 < 9007199254740992 → T (positive (round binary64 false a b))
      → round binary64 false a b ≡ round binary64 false a' b
      → ⊥
  gap a a' apart small p same =
      let s = 2 ^ k in
      let q = a * s / b in
      let z = round binary64 false a b in
      let y = round binary64 false (suc q) s in
      let y' = round binary64 false (suc (suc q)) s in
      let m : suc a * s ≤ a' * s = mul-le-mul_right s apart in
      let n : suc a * s ≡ a * s + s = suc-mul a s in
      let f = between_them (a * s) q b (a * s % b) (a' * s) s (div-add-mod' (a * s) b) (mod-lt (a * s) some) fine (omega arith) in
      let d : q ≤ a * s = div-le_self (a * s) b in
      let v : HasValue y false (suc q) s = exact_at (suc q) k bound (omega arith) in
      let v' : HasValue y' false (suc (suc q)) s = exact_at (suc (suc q)) k bound (omega arith) in
      let above : T (positive y) = positive_of_value y (suc q) s v (zero-lt-suc q) in
      let above' : T (positive y') = positive_of_value y' (suc (suc q)) s v' (zero-lt-suc (suc q)) in
      let one : T (le z y) = round_mono binary64 a b (suc q) s some (pow_pos k) f.0 in
      let two : T (le y' z) = subst (λ (x : Float). T (le y' x)) (sym same) (round_mono binary64 (suc (suc q)) s a' b (pow_pos k) some f.1) in
      let all : T (le y' y) = le_trans_positive y' z y above' p above two one in
      let bad : suc (suc q) * s ≤ suc q * s = values_of_le y' y (suc (suc q)) s (suc q) s above' above v' v all in
      let t : suc (suc q) * s ≡ suc q * s + s = suc-mul (suc q) s in
      let s-pos : 0 < s = pow_pos k in
      omega arith

  pub same_dividend : (a a' : ℕ) → a * 2 ^ k + 2 < 9007199254740992 → T (positive (round binary64 false a b))
      → round binary64 false a b ≡ round binary64 false a' b → a ≡ a'
  same_dividend a a' small p same = by (ltb a a') (ltb a' a) refl refl where
    by : (less more : Bool) → ltb a a' ≡ less → ltb a' a ≡ more → a ≡ a'
    by true more e f = absurd (gap a a' (ltb-true a a' e) small p same)
    by false true e f =
        let l : a' < a = ltb-true a' a f in
        let m : a' * 2 ^ k ≤ a * 2 ^ k = mul-le-mul_right (2 ^ k) (omega arith) in
        absurd (gap a' a l (omega arith) (subst (λ (x : Float). T (positive x)) same p) (sym same))
    by false false e f =
        let x = ltb-false a a' e in
        let y = ltb-false a' a f in
        omega arith
