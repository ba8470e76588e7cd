-- What the code's tests tell of a float: out of range, or the float of a whole number and not -0. Assumes nothing.
use Rattle.std.proofs.Common.{◌≡◌, ℕ, zero, suc, ◌+◌, ◌*◌, ◌/◌, ◌<◌, ◌≤◌, Bool, true, false, not, ◌&&◌, ◌||◌, T, eqb, pos, sym, refl, ap, ◌∙◌, subst, lt_of_lt_of_le, lt_irrefl, zero-lt-suc}
use Rattle.std.proofs.Common.{mul-pos, le-div_iff_mul-le, zero-mul, mul-one, mul_right_comm, arith, le→leb, eqb→eq, ltb-false, le-ltb}
use mathlib.Core.Bool.{beq}
use native.Mathlib.Nat.{eq_of_mul-eq-mul_right}
use lib.Dec.{eqb_refl, eqb-suc-zero}
use lib.Ieee.{Float, nan, inf, fin, binary64, up, down, lt, eq, div, of_int, fits, whole, in_float, in_unsigned, to_unsigned}
use lib.Ieee.Fits.{and_i, and_l, and_r, up_pos, down_pos, of_int-fits}
use lib.Ieee.Exact.{HasValue}
use lib.Ieee.Back.{round_whole, whole_unique, unsigned_back, Float-back_unsigned}
use Rattle.money.specs.Money.{max}
use Rattle.mta.specs.Mta.{is_within}

pub and_false : (a : Bool) → (a && false) ≡ false
and_false true = refl
and_false false = refl

same_test : (a b : Bool) → (T a → T b) → (T b → T a) → a ≡ b
same_test true true p q = refl
same_test true false p q = absurd (p tt)
same_test false true p q = absurd (q tt)
same_test false false p q = refl

-- ---- out of range
too_low : (x : Float) → lt (fin true 1 (pos 0)) x ≡ false → in_unsigned binary64 64 x ≡ false
unfolding lt in_unsigned
too_low nan h = refl
too_low (inf s) h = refl
too_low (fin true m e) h = and_false (whole binary64 (fin true m e))
too_low (fin false m e) h =
    let k : 1 * 1 * down e + m * up e * 1 ≤ 0 = ltb-false _ _ h in
    absurd (lt_irrefl 0 (lt_of_lt_of_le (down_pos e) (omega arith)))

too_high : (x : Float) → lt x (fin false 1 (pos 64)) ≡ false → in_unsigned binary64 64 x ≡ false
unfolding lt in_unsigned
too_high nan h = refl
too_high (inf s) h = refl
too_high (fin true m e) h = and_false (whole binary64 (fin true m e))
too_high (fin false m e) h =
    let k : 18446744073709551616 * down e ≤ m * up e = subst (λ (z : ℕ). 18446744073709551616 * down e ≤ z) (mul-one (m * up e)) (ltb-false _ _ h) in
    let q : 18446744073709551616 ≤ m * up e / down e = (le-div_iff_mul-le (down_pos e)).1 k in
    simp (le-ltb _ _ q) (and_false (whole binary64 (fin false m e)))

pub not_within : (x : Float) → is_within x ≡ false → in_unsigned binary64 64 x ≡ false
unfolding is_within
not_within x h = by (lt (fin true 1 (pos 0)) x) (lt x (fin false 1 (pos 64))) refl refl h where
  by : (a b : Bool) → lt (fin true 1 (pos 0)) x ≡ a → lt x (fin false 1 (pos 64)) ≡ b → (a && b) ≡ false → in_unsigned binary64 64 x ≡ false
  by false b e f g = too_low x e
  by true b e f g = too_high x (f ∙ g)

pub within : (x : Float) → is_within x ≡ true → T (lt (fin true 1 (pos 0)) x) × T (lt x (fin false 1 (pos 64)))
unfolding is_within
within x h =
    let both = subst T (sym h) tt in
    (and_l (lt (fin true 1 (pos 0)) x) (lt x (fin false 1 (pos 64))) both, and_r (lt (fin true 1 (pos 0)) x) (lt x (fin false 1 (pos 64))) both)

-- ---- the cast back and the sign tell a whole number
abbrev negative : Float → Bool
negative nan = false
negative (inf s) = false
negative (fin s m e) = s

cross : (a e b d n : ℕ) → 0 < d → a * 1 ≡ n * d → a * e ≡ b * d → b * 1 ≡ n * e
cross a e b d n D v w =
    eq_of_mul-eq-mul_right d D (b * 1) (n * e)
    (ap (λ (z : ℕ). z * d) (mul-one b) ∙ sym w ∙ ap (λ (z : ℕ). z * e) (sym (mul-one a) ∙ v) ∙ mul_right_comm n d e)

equal_of : (x y : Float) (n : ℕ) → HasValue y false n 1 → T (fits binary64 y) → T (fits binary64 x) → T (eq y x) → negative x ≡ false → x ≡ y
unfolding eq
equal_of nan nan n v fy fx q s = elim v [ ]
equal_of nan (inf _) n v fy fx q s = elim v [ ]
equal_of nan (fin t m' e') n v fy fx q s = absurd q
equal_of (inf u) nan n v fy fx q s = elim v [ ]
equal_of (inf u) (inf _) n v fy fx q s = elim v [ ]
equal_of (inf u) (fin t m' e') n v fy fx q s = absurd q
equal_of (fin u m e) nan n v fy fx q s = elim v [ ]
equal_of (fin u m e) (inf _) n v fy fx q s = elim v [ ]
equal_of (fin u m e) (fin t m' e') n v fy fx q s =
    let a = m' * up e' * down e in
    let b = m * up e * down e' in
    whole_unique binary64 (fin u m e) (fin t m' e') false n fx fy
    (s, cross (m' * up e') (down e) (m * up e) (down e') n (down_pos e') v.1 (eqb→eq a b (and_l (eqb a b) (beq t u || eqb a 0) q))) v

self : (x : Float) → T (in_unsigned binary64 64 x) → T (eq x x)
unfolding eq in_unsigned
self nan t = elim t [ ]
self (inf _) t = elim t [ ]
self (fin true m e) t = absurd (and_r (whole binary64 (fin true m e)) false t)
self (fin false m e) t = and_i (eqb (m * up e * down e) (m * up e * down e)) true (eqb_refl (m * up e * down e)) tt

has_value : (n : ℕ) → n ≤ 9007199254740992 → HasValue (of_int binary64 (pos n)) false n 1
unfolding of_int
has_value n h = round_whole binary64 false n h

abbrev pub zero64 : Float
zero64 = fin false 0 (pos 0)

abbrev pub above_zero : Float → Bool
above_zero x = lt zero64 (div binary64 (fin false 1 (pos 0)) x)

of_zero : of_int binary64 (pos 0) ≡ zero64
unfolding of_int
of_zero = refl

-- one over -0 is no positive number, and nothing else negative equals 0
not_minus : (x : Float) → T (eq zero64 x) → T (above_zero x) → negative x ≡ false
unfolding eq lt div
not_minus nan q o = refl
not_minus (inf s) q o = refl
not_minus (fin false m e) q o = refl
not_minus (fin true zero e) q o = absurd o
not_minus (fin true (suc m) e) q o =
    let a = 0 * 1 * down e in
    let z : a ≡ suc m * up e * 1 = eqb→eq a (suc m * up e * 1) (and_l (eqb a (suc m * up e * 1)) (false || eqb a 0) q) in
    absurd (lt_irrefl 0 (subst (λ (k : ℕ). 0 < k) (sym z ∙ zero-mul (down e)) (mul-pos (mul-pos (zero-lt-suc m) (up_pos e)) (zero-lt-suc 0))))

over_zero : T (above_zero zero64)
unfolding lt div
over_zero = tt

-- the code's test
abbrev pub exactly : ℕ → Float → Bool
exactly n x = eq (of_int binary64 (pos n)) x && (not (eqb n 0) || above_zero x)

sign_of : (x : Float) (n : ℕ) → n ≡ to_unsigned 64 x → T (exactly n x) → negative x ≡ false
unfolding to_unsigned
sign_of nan n h t = refl
sign_of (inf s) n h t = refl
sign_of (fin false m e) n h t = refl
sign_of (fin true m e) n h t =
    let x = fin true m e in
    let z : T (exactly 0 x) = subst (λ (k : ℕ). T (exactly k x)) h t in
    let q : T (eq zero64 x) = subst (λ (y : Float). T (eq y x)) of_zero (and_l (eq (of_int binary64 (pos 0)) x) (above_zero x) z) in
    not_minus x q (and_r (eq (of_int binary64 (pos 0)) x) (above_zero x) z)

pub in_float_lem : (n : ℕ) → n ≤ max → T (in_float binary64 (pos n))
unfolding in_float
in_float_lem n h = le→leb n 9007199254740992 (omega arith)

forth : (x : Float) (n : ℕ) → T (fits binary64 x) → n ≡ to_unsigned 64 x → n ≤ max → T (exactly n x) → T (in_unsigned binary64 64 x)
forth x n f h l t =
    let y = of_int binary64 (pos n) in
    let same = and_l (eq y x) (not (eqb n 0) || above_zero x) t in
    let e : x ≡ y = equal_of x y n (has_value n (omega arith)) (of_int-fits binary64 (pos n)) f same (sign_of x n h t) in
    subst (λ (z : Float). T (in_unsigned binary64 64 z)) (sym e) (unsigned_back binary64 64 n (in_float_lem n l) (omega arith)).0

last_test : (n : ℕ) (x : Float) → of_int binary64 (pos n) ≡ x → T (not (eqb n 0) || above_zero x)
last_test zero x e = subst (λ (z : Float). T (above_zero z)) (sym of_zero ∙ e) over_zero
last_test (suc n) x e = subst (λ (b : Bool). T (not b || above_zero x)) (sym (eqb-suc-zero n)) tt

back : (x : Float) (n : ℕ) → T (fits binary64 x) → n ≡ to_unsigned 64 x → T (in_unsigned binary64 64 x) → T (exactly n x)
back x n f h t =
    let e : of_int binary64 (pos n) ≡ x = ap (λ (k : ℕ). of_int binary64 (pos k)) h ∙ (Float-back_unsigned binary64 64 x f t).1 in
    and_i (eq (of_int binary64 (pos n)) x) (not (eqb n 0) || above_zero x) (subst (λ (z : Float). T (eq z x)) (sym e) (self x t)) (last_test n x e)

pub exact : (x : Float) (n : ℕ) → T (fits binary64 x) → n ≡ to_unsigned 64 x → n ≤ max → exactly n x ≡ in_unsigned binary64 64 x
exact x n f h l = same_test (exactly n x) (in_unsigned binary64 64 x) (forth x n f h l) (back x n f h)
