-- Numbers in bytes, there and back, over the width and the place; and bytes of a part. Assumes nothing.
use mathlib.Core.Path.{◌≡◌, refl, sym, ap, subst, ◌∙◌}
use mathlib.Core.List.{List, [], ◌∷◌, ◌++◌, append_assoc}
use Prim.Native.Nat.{ℕ, zero, suc, ◌+◌, ◌*◌, ◌/◌, ◌%◌, ◌^◌, ◌<◌, ◌≤◌}
use native.Mathlib.Nat.{zero-add, pow-suc}
use native.Mathlib.Omega.{arith}
use lib.ListN.{length, take, drop, length-append, length-drop, take-append-drop}
use lib.Seq.{get_or-append-add, get_or_at, get_or-drop, drop-drop, take-suc}
use Rattle.wire.specs.Wire.{byte, number}
use Rattle.spelling.specs.Spelling.{Bytes, big}

pub no_bytes : (s : List ℕ) → length s ≤ 0 → s ≡ []
no_bytes [] h = refl
no_bytes (b ∷ s) h = absurd (omega arith)

pub big_length : (n k : ℕ) → length (big n k) ≡ n
unfolding big
big_length zero k = refl
big_length (suc n) k = omega (arith, length-append (big n (k / 256)) (k % 256 ∷ []), big_length n (k / 256))

-- ---- there

pub big-read : (front : List ℕ) (n k : ℕ) (rest : List ℕ) → k < 256 ^ n → number (front ++ (big n k ++ rest)) (length front) n ≡ k
unfolding big number
big-read front zero k rest h = let one : 256 ^ 0 ≡ 1 = refl in omega arith
big-read front (suc n) k rest h =
    let small : k / 256 < 256 ^ n = omega (arith, pow-suc 256 n) in
    let before = big-read front n (k / 256) (k % 256 ∷ rest) small in
    let last : byte (front ++ (big n (k / 256) ++ k % 256 ∷ rest)) (length front + n) ≡ k % 256 =
    get_or-append-add front (big n (k / 256) ++ k % 256 ∷ rest) n 0 ∙ get_or_at (big n (k / 256)) (k % 256) rest 0 n (big_length n (k / 256)) in
    let whole : big (suc n) k ++ rest ≡ big n (k / 256) ++ k % 256 ∷ rest = append_assoc (big n (k / 256)) (k % 256 ∷ []) rest in
    let read : number (front ++ (big n (k / 256) ++ k % 256 ∷ rest)) (length front) (suc n) ≡ k = rw (before, last) (omega arith) in
    subst (λ (s : List ℕ). number (front ++ s) (length front) (suc n) ≡ k) (sym whole) read

-- ---- back

pub byte_small : (s : List ℕ) → Bytes s → (i : ℕ) → byte s i < 256
byte_small [] h i = omega arith
byte_small (b ∷ s) h zero = h.0
byte_small (b ∷ s) h (suc i) = byte_small s h.1 i

pub big_back : (s : List ℕ) → Bytes s → (at n : ℕ) → at + n ≤ length s → take n (drop at s) ≡ big n (number s at n)
unfolding big number
big_back s h at zero l = refl
big_back s h at (suc n) l =
    let small = byte_small s h (at + n) in
    let high : (number s at n * 256 + byte s (at + n)) / 256 ≡ number s at n = omega arith in
    let low : (number s at n * 256 + byte s (at + n)) % 256 ≡ byte s (at + n) = omega arith in
    rw (high, low, take-suc (drop at s) n 0 (omega (arith, length-drop at s)), get_or-drop at s n 0, big_back s h at n (omega arith))

pub number_small : (s : List ℕ) → Bytes s → (at n : ℕ) → number s at n < 256 ^ n
unfolding number
number_small s h at zero = let one : 256 ^ 0 ≡ 1 = refl in omega arith
number_small s h at (suc n) = omega (arith, byte_small s h (at + n), number_small s h at n, pow-suc 256 n)

-- ---- a number from a place on is that of what stands there

pub number_drop : (s : List ℕ) (at n : ℕ) → number s at n ≡ number (drop at s) 0 n
unfolding number
number_drop s at zero = refl
number_drop s at (suc n) =
    let before = number_drop s at n in
    let last : byte (drop at s) (0 + n) ≡ byte s (at + n) = ap (byte (drop at s)) (zero-add n) ∙ get_or-drop at s n 0 in
    omega arith

-- ---- parts of bytes are bytes

pub bytes_take : (n : ℕ) (s : List ℕ) → Bytes s → Bytes (take n s)
bytes_take zero s h = tt
bytes_take (suc n) [] h = tt
bytes_take (suc n) (b ∷ s) h = (h.0, bytes_take n s h.1)

pub bytes_drop : (n : ℕ) (s : List ℕ) → Bytes s → Bytes (drop n s)
bytes_drop zero s h = h
bytes_drop (suc n) [] h = tt
bytes_drop (suc n) (b ∷ s) h = bytes_drop n s h.1

pub bytes-behind : (s t : List ℕ) → Bytes (s ++ t) → Bytes t
bytes-behind [] t h = h
bytes-behind (b ∷ s) t h = bytes-behind s t h.1

pub bytes-front : (s t : List ℕ) → Bytes (s ++ t) → Bytes s
bytes-front [] t h = tt
bytes-front (b ∷ s) t h = (h.0, bytes-front s t h.1)

-- ---- a number at a place, and bytes from a place on

pub big-at : (s : List ℕ) (at n k : ℕ) (rest : List ℕ) → drop at s ≡ big n k ++ rest → k < 256 ^ n → number s at n ≡ k
big-at s at n k rest e h = number_drop s at n ∙ ap (λ (t : List ℕ). number t 0 n) e ∙ big-read [] n k rest h

pub peel : (s : List ℕ) → Bytes s → (at n : ℕ) → at + n ≤ length s → drop at s ≡ big n (number s at n) ++ drop (at + n) s
peel s h at n l = sym (take-append-drop n (drop at s)) ∙ rw (big_back s h at n l, drop-drop n at s)
