-- A word says one number or the bytes of one list, and no other word in its form does. Assumes nothing.
use mathlib.Core.Path.{◌≡◌, refl, sym, ap, ◌∙◌}
use mathlib.Core.Bool.{Bool, true, false, not, cond, ◌&&◌, ◌||◌}
use mathlib.Core.List.{List, [], ◌∷◌}
use mathlib.Core.Logic.{◌⊎◌, inl, inr}
use Prim.Native.Nat.{ℕ, zero, suc, ◌+◌, ◌*◌, ◌-◌, ◌/◌, ◌%◌, ◌^◌, ◌≤◌, ◌<◌}
use native.Mathlib.Nat.{pow-suc, pow-le-pow_right, suc-mul, mul-le-mul_right}
use native.Mathlib.Omega.{arith}
use borrow.Author.Tests.{lt-ltb, le-ltb, lt-leb, leb-true, eqb-false, not-true}
use lib.Dec.{leb, eqb, lit<}
use lib.ListN.{length}
use Rattle.wire.proofs.Pairs.{both}
use Rattle.hex_digits.specs.Hex.{hex_digit, hex}
use Rattle.readback.specs.Fields.{is_digit, are_digits, is_unpadded, is_decimal, value_in, is_hex_digit, hex_value, is_hex, bytes_in}
use Rattle.readback.proofs.Places.{sides, on}

-- ---- numbers

record Digits (d : ℕ) (w : List ℕ) : Type 0 where
  least : 48 ≤ d
  most : d ≤ 57
  others : are_digits w ≡ true

split : (d : ℕ) (w : List ℕ) → are_digits (d ∷ w) ≡ true → Digits d w
unfolding are_digits
split d w e =
    let (digit, others) = both (is_digit d) (are_digits w) e in
    let (least, most) = both (leb 48 d) (leb d 57) digit in
    record { least = leb-true 48 d least; most = leb-true d 57 most; others = others }

-- so many digits write less than the next power of ten
below : (w : List ℕ) → are_digits w ≡ true → value_in w < 10 ^ length w
unfolding value_in
below [] e = lit< tt
below (d ∷ w) e =
    let g = split d w e in
    let least = g.least in
    let v = below w g.others in
    let nine : (d - 48) * 10 ^ length w ≤ 9 * 10 ^ length w = mul-le-mul_right (10 ^ length w) (omega (arith, g.most)) in
    omega (arith, pow-suc 10 (length w))

-- a first digit that is not zero writes at least the power of ten of those behind it
above : (d : ℕ) (w : List ℕ) → 49 ≤ d → 10 ^ length w ≤ value_in (d ∷ w)
unfolding value_in
above d w h =
    let one : 1 * 10 ^ length w ≤ (d - 48) * 10 ^ length w = mul-le-mul_right (10 ^ length w) (omega arith) in
    omega arith

-- quotients by one number are in the order of what is divided
quotients : (x y p a b : ℕ) → b < p → x * p + a ≡ y * p + b → x ≤ y
quotients x y p a b h e = on (sides x y) (λ le. le) (λ lt. absurd (less lt)) where
  less : y < x → ⊥
  less lt = let m : suc y * p ≤ x * p = mul-le-mul_right p lt in omega (arith, suc-mul y p)

same_size : (v w : List ℕ) → are_digits v ≡ true → are_digits w ≡ true → length v ≡ length w → value_in v ≡ value_in w → v ≡ w
unfolding value_in
same_size [] [] p q size e = refl
same_size [] (d ∷ w) p q size e = absurd (omega arith)
same_size (c ∷ v) [] p q size e = absurd (omega arith)
same_size (c ∷ v) (d ∷ w) p q size e =
    let f = split c v p in
    let g = split d w q in
    let sizes : length v ≡ length w = omega arith in
    let sums : (c - 48) * 10 ^ length w + value_in v ≡ (d - 48) * 10 ^ length w + value_in w =
    ap (λ (k : ℕ). (c - 48) * 10 ^ k + value_in v) (sym sizes) ∙ e in
    let less : value_in v < 10 ^ length w = rw (← sizes) (below v f.others) in
    let one = quotients (c - 48) (d - 48) (10 ^ length w) (value_in v) (value_in w) (below w g.others) sums in
    let two = quotients (d - 48) (c - 48) (10 ^ length w) (value_in w) (value_in v) less (sym sums) in
    let digit : c - 48 ≡ d - 48 = omega arith in
    let first = ap (λ (x : ℕ). x * 10 ^ length w) digit in
    let same : c ≡ d = omega (arith, f.least, g.least) in
    let others = same_size v w f.others g.others sizes (omega arith) in
    cc

longer : (v w : List ℕ) → is_decimal v ≡ true → is_decimal w ≡ true → length v < length w → value_in v ≡ value_in w → ⊥
longer [] w p q size e = let (_, z) = both (are_digits []) false p in let y : ◌≡◌ {A = ℕ} 0 1 = cc in omega arith
longer (c ∷ v) [] p q size e = omega arith
longer (c ∷ v) (d ∷ []) p q size e = omega arith
longer (c ∷ v) (d ∷ f ∷ w) p q size e =
    let (digits, _) = both (are_digits (c ∷ v)) (is_unpadded (c ∷ v)) p in
    let (others, unpadded) = both (are_digits (d ∷ f ∷ w)) (not (eqb d 48)) q in
    let least = (split d (f ∷ w) others).least in
    let other : d ≡ 48 → ⊥ = eqb-false d 48 (not-true (eqb d 48) unpadded) in
    let large : 49 ≤ d = on (sides 49 d) (λ h. h) (λ h. absurd (other (omega arith))) in
    let powers : 10 ^ length (c ∷ v) ≤ 10 ^ length (f ∷ w) = pow-le-pow_right (lit< tt) (omega arith) in
    omega (arith, below (c ∷ v) digits, above d (f ∷ w) large)

-- two words in decimal that say the same number are one
pub same_number : (v w : List ℕ) → is_decimal v ≡ true → is_decimal w ≡ true → value_in v ≡ value_in w → v ≡ w
same_number v w p q e =
    on (sides (length v) (length w))
    (λ h. on (sides (length w) (length v))
    (λ k. same_size v w (both (are_digits v) (is_unpadded v) p).0 (both (are_digits w) (is_unpadded w) q).0 (omega arith) e)
    (λ l. absurd (longer v w p q l e)))
    (λ l. absurd (longer w v q p l (sym e)))

-- ---- bytes

record Half (d : ℕ) : Type 0 where
  small : hex_value d < 16
  back : hex_digit (hex_value d) ≡ d

either : (a b : Bool) → (a || b) ≡ true → (a ≡ true) ⊎ (b ≡ true)
either true b e = inl refl
either false b e = inr e

half : (d : ℕ) → is_hex_digit d ≡ true → Half d
half d e =
    on (either (is_digit d) (leb 65 d && leb d 70) e)
    (λ t.
    let (l, m) = both (leb 48 d) (leb d 57) t in
    let least = leb-true 48 d l in
    let most = leb-true d 57 m in
    record { small = rw m (omega arith); back = rw (m, lt-ltb (d - 48) 10 (omega arith)) (omega arith) })
    (λ t.
    let (l, m) = both (leb 65 d) (leb d 70) t in
    let least = leb-true 65 d l in
    let most = leb-true d 70 m in
    let letter = lt-leb d 57 (omega arith) in
    record { small = rw letter (omega arith); back = rw (letter, le-ltb (d - 65 + 10) 10 (omega arith)) (omega arith) })

halves : (x y : ℕ) → y < 16 → ((x * 16 + y) / 16 ≡ x) × ((x * 16 + y) % 16 ≡ y)
halves x y h = (omega arith, omega arith)

-- a word in hex is that of its bytes
pub same_bytes : (w : List ℕ) → is_hex w ≡ true → hex (bytes_in w) ≡ w
unfolding hex is_hex bytes_in
same_bytes [] e = refl
same_bytes (h ∷ []) e = let z : ◌≡◌ {A = ℕ} 0 1 = cc in absurd (omega arith)
same_bytes (h ∷ l ∷ w) e =
    let (digits, others) = both _ (is_hex w) e in
    let (upper, lower) = both (is_hex_digit h) (is_hex_digit l) digits in
    let u = half h upper in
    let v = half l lower in
    let (q, r) = halves (hex_value h) (hex_value l) v.small in
    rw (q, r, u.back, v.back, same_bytes w others)
