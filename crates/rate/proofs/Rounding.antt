-- The code's division of two floats is the exact quotient rounded once, and what equals a float above zero is that float. Assumes nothing.
use mathlib.Core.Path.{◌≡◌, sym, ap, ◌∙◌, subst}
use mathlib.Core.Bool.{true, false, ◌||◌, true≢false}
use Prim.Native.Nat.{ℕ, zero, suc, ◌*◌, ◌/◌, ◌^◌, ◌≤◌, ◌<◌}
use native.Mathlib.Nat.{lt_irrefl, zero-lt-suc, zero-mul, mul-one, mul_comm, mul_assoc, mul_left_comm, mul_right_comm, mul-pos}
use native.Mathlib.Omega.{arith}
use lib.IntN.{ℤ, pos}
use lib.Dec.{T, eqb, eqb→eq, eqb_refl, eqb-suc-zero, ltb→lt, lit<}
use lib.Ieee.{Float, nan, inf, fin, binary64, up, down, round, div, eq, of_int, fits, to_bits, of_bits}
use lib.Ieee.Back.{round_whole}
use lib.Ieee.Bits.{of_bits-to_bits}
use lib.Ieee.Exact.{HasValue}
use lib.Ieee.Fits.{and_i, and_l, and_r, up_pos, down_pos}
use lib.Ieee.Nearest.{div_same}
use lib.Ieee.Order.{round_mono}
use lib.Ieee.Positive.{positive, between}
use lib.Ieee.Scale.{round_same}
use Rattle.rate.specs.Rate.{quotient}

-- ---- one rounding
fractions : (a b c d n p : ℕ) → a ≡ n * b → c ≡ p * d → a * d * p ≡ n * (c * b)
fractions a b c d n p e f = rw (e, f) (simp (mul_assoc, mul_comm, mul_left_comm))

not_zero : (u p d : ℕ) → zero * u * 1 ≡ p * d → 0 < p → 0 < d → ⊥
not_zero u p d h P D = lt_irrefl 0 (subst (λ (z : ℕ). 0 < z) (sym h ∙ ap (λ (z : ℕ). z * 1) (zero-mul u)) (mul-pos P D))

-- two floats that are whole numbers
divided : (a b : Float) (n p : ℕ) → 0 < p → HasValue a false n 1 → HasValue b false p 1 → div binary64 a b ≡ round binary64 false n p
unfolding div
divided nan b n p P v w = elim v [ ]
divided (inf _) b n p P v w = elim v [ ]
divided (fin true m e) b n p P v w = absurd (true≢false v.0)
divided (fin false m e) nan n p P v w = elim w [ ]
divided (fin false m e) (inf _) n p P v w = elim w [ ]
divided (fin false m e) (fin true k g) n p P v w = absurd (true≢false w.0)
divided (fin false m e) (fin false zero g) n p P v w = absurd (not_zero (up g) p (down g) w.1 P (down_pos g))
divided (fin false m e) (fin false (suc k) g) n p P v w =
    simp (eqb-suc-zero k)
    (round_same binary64 false (m * up e * down g) (suc k * up g * down e) n p (mul-pos (mul-pos (zero-lt-suc k) (up_pos g)) (down_pos e)) P
    (fractions (m * up e) (down e) (suc k * up g) (down g) n p (sym (mul-one (m * up e)) ∙ v.1) (sym (mul-one (suc k * up g)) ∙ w.1)))

whole : (n : ℕ) → n ≤ 9007199254740992 → HasValue (of_int binary64 (pos n)) false n 1
unfolding of_int
whole n h = round_whole binary64 false n h

pub one_rounding : (n p : ℕ) → 0 < p → n ≤ 9007199254740992 → p ≤ 9007199254740992 → quotient n p ≡ round binary64 false n p
one_rounding n p P h k = divided (of_int binary64 (pos n)) (of_int binary64 (pos p)) n p P (whole n h) (whole p k)

-- ---- fractions from 1 / 10 ^ 9 up to 9,999,000
low_end : T (positive (round binary64 false 1 1000000000))
unfolding round
low_end = tt

high_end : T (positive (round binary64 false 9999000 1))
unfolding round
high_end = tt

pub above_zero : (a b : ℕ) → 0 < b → b ≤ a * 1000000000 → a ≤ 9999000 * b → T (positive (round binary64 false a b))
above_zero a b B l h =
    between (round binary64 false 1 1000000000) (round binary64 false a b) (round binary64 false 9999000 1) low_end high_end
    (round_mono binary64 1 1000000000 a b (lit< tt) B (omega arith)) (round_mono binary64 a b 9999000 1 B (lit< tt) (omega arith))

-- ---- equality of floats above zero is equality of data
pub self : (x : Float) → T (positive x) → T (eq x x)
unfolding eq
self nan p = absurd p
self (inf s) p = absurd p
self (fin true m e) p = absurd p
self (fin false m e) p = and_i (eqb (m * up e * down e) (m * up e * down e)) true (eqb_refl (m * up e * down e)) tt

same_bits : (m n : ℕ) (e g : ℤ) → m * up e * down g ≡ n * up g * down e → to_bits binary64 (fin false m e) ≡ to_bits binary64 (fin false n g)
unfolding to_bits
same_bits m n e g h =
    let unit = 2 ^ 1074 in
    let size : m * up e * unit / down e ≡ n * up g * unit / down g =
    div_same (m * up e * unit) (down e) (n * up g * unit) (down g) (down_pos e) (down_pos g)
    (mul_right_comm (m * up e) unit (down g) ∙ ap (λ (z : ℕ). z * unit) h ∙ mul_right_comm (n * up g) (down e) unit) in
    rw size

pub equal_is : (z x : Float) → T (positive z) → T (fits binary64 z) → T (fits binary64 x) → T (eq z x) → z ≡ x
unfolding eq
equal_is nan x p f g t = absurd p
equal_is (inf s) x p f g t = absurd p
equal_is (fin true m e) x p f g t = absurd p
equal_is (fin false m e) nan p f g t = absurd t
equal_is (fin false m e) (inf s) p f g t = absurd t
equal_is (fin false m e) (fin true n d) p f g t =
    let a = m * up e * down d in
    let zero' : a ≡ 0 = eqb→eq a 0 (and_r (eqb a (n * up d * down e)) (false || eqb a 0) t) in
    absurd (lt_irrefl 0 (subst (λ (k : ℕ). 0 < k) zero' (mul-pos (mul-pos (ltb→lt 0 m p) (up_pos e)) (down_pos d))))
equal_is (fin false m e) (fin false n d) p f g t =
    let a = m * up e * down d in
    let b = n * up d * down e in
    sym (of_bits-to_bits binary64 (fin false m e) f)
    ∙ ap (of_bits binary64) (same_bits m n e d (eqb→eq a b (and_l (eqb a b) true t)))
    ∙ of_bits-to_bits binary64 (fin false n d) g
