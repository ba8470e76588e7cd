-- Zeros and pairs of digits, over the number of bytes. Assumes nothing.
use mathlib.Core.Path.{◌≡◌, refl, sym, ap, ◌∙◌}
use mathlib.Core.Bool.{true, ◌&&◌}
use mathlib.Core.List.{List, [], ◌∷◌, ◌++◌}
use Prim.Native.Nat.{ℕ, zero, suc, ◌+◌, ◌*◌, ◌/◌, ◌%◌, ◌^◌, ◌≤◌, ◌<◌}
use native.Mathlib.Nat.{zero-add, div-div-eq-div-mul, one-le-pow, pow-le-pow_right, suc-mul, pow-suc}
use native.Mathlib.Numerals.{add-one}
use native.Mathlib.Omega.{arith}
use borrow.Author.Tests.{ne_eqb}
use lib.Dec.{eqb, lit<, eqb-suc-zero}
use lib.ListN.{length, take, replicate, replicate-append-replicate}
use lib.Seq.{take-suc}
use Rattle.wire.specs.Wire.{byte, number, pair_of, is_pair}
use Rattle.wire.proofs.Numbers.{split}
use Rattle.wire.proofs.Pairs.{both, last-pair, before-pair}
use Rattle.iad.specs.Iad.{are_zeros, pairs_of, are_pairs, pairs_value}

-- a sum is 0 where both parts are
parts : (a p b : ℕ) → 0 < p → eqb (a * p + b) 0 ≡ (eqb a 0 && eqb b 0)
parts zero p b h = let e : zero * p + b ≡ b = omega arith in rw e
parts (suc a) p b h = let m = suc-mul a p in ne_eqb (suc a * p + b) 0 (λ e. omega arith) ∙ rw (eqb-suc-zero a)

pub zeros_split : (s : List ℕ) (at m n : ℕ) → are_zeros s at (m + n) ≡ (are_zeros s at m && are_zeros s (at + m) n)
zeros_split s at m n = rw (split s at m n) (parts (number s at m) (256 ^ n) (number s (at + m) n) (one-le-pow n 256 (lit< tt)))

-- the six pairs of an amount, each at its place
pub six_pairs : (n : ℕ)
    → pairs_of n 6
    ≡ pair_of (n / 10_000_000_000) ∷ pair_of (n / 100_000_000) ∷ pair_of (n / 1_000_000) ∷ pair_of (n / 10_000) ∷ pair_of (n / 100) ∷ pair_of n ∷ []
unfolding pairs_of
six_pairs n =
    rw (div-div-eq-div-mul n 100 100, div-div-eq-div-mul n 10_000 100, div-div-eq-div-mul n 1_000_000 100, div-div-eq-div-mul n 100_000_000 100)

-- a pair is that of the last two digits
same-pair : (m n : ℕ) → m % 100 ≡ n % 100 → pair_of m ≡ pair_of n
same-pair m n e =
    let tens : m / 10 % 10 ≡ n / 10 % 10 = omega arith in
    let ones : m % 10 ≡ n % 10 = omega arith in
    rw (tens, ones)

-- the same of its two halves of six digits
pub two_halves : (n : ℕ)
    → pairs_of n 6
    ≡ pair_of (n / 1_000_000 % 1_000_000 / 10_000) ∷ pair_of (n / 1_000_000 % 1_000_000 / 100 % 100) ∷ pair_of (n / 1_000_000 % 1_000_000 % 100)
    ∷ pair_of (n % 1_000_000 / 10_000)
    ∷ pair_of (n % 1_000_000 / 100 % 100)
    ∷ pair_of (n % 1_000_000 % 100)
    ∷ []
two_halves n =
    six_pairs n
    ∙ simp (
      same-pair (n / 10_000_000_000) (n / 1_000_000 % 1_000_000 / 10_000) (omega arith),
      same-pair (n / 100_000_000) (n / 1_000_000 % 1_000_000 / 100 % 100) (omega arith),
      same-pair (n / 1_000_000) (n / 1_000_000 % 1_000_000 % 100) (omega arith),
      same-pair (n / 10_000) (n % 1_000_000 / 10_000) (omega arith),
      same-pair (n / 100) (n % 1_000_000 / 100 % 100) (omega arith),
      same-pair n (n % 1_000_000 % 100) (omega arith),
    )

-- before the sixth pair an amount is small
pub small : (i : ℕ) → i < 6 → 100 ^ i ≤ 10_000_000_000
small i h = pow-le-pow_right (lit< tt) {i = i} {j = 5} (omega arith)

-- n bytes from a place on, written out
abbrev pub run : List ℕ → ℕ → ℕ → List ℕ
run s at zero = []
run s at (suc n) = run s at n ++ byte s (at + n) ∷ []

pub run_take : (s : List ℕ) (n : ℕ) → n ≤ length s → run s 0 n ≡ take n s
run_take s zero h = refl
run_take s (suc n) h = rw (zero-add n, run_take s n (omega arith)) (sym (take-suc s n 0 h))

pub zeros-run : (s : List ℕ) (at n : ℕ) → number s at n ≡ 0 → run s at n ≡ replicate n 0
unfolding number
zeros-run s at zero e = refl
zeros-run s at (suc n) e =
    let b : byte s (at + n) ≡ 0 = omega arith in
    rw (zeros-run s at n (omega arith), b) (replicate-append-replicate n 1 0 ∙ ap (λ (k : ℕ). replicate k 0) (add-one n))

module _ (s : List ℕ) (at : ℕ) where
  pub pairs-run : (n : ℕ) → are_pairs s at n ≡ true → pairs_of (pairs_value s at n) n ≡ run s at n
  unfolding pairs_of are_pairs pairs_value
  pairs-run zero e = refl
  pairs-run (suc n) e =
      let (more, last) = both (are_pairs s at n) (is_pair (byte s (at + n))) e in
      let a = pairs_value s at n in
      let b = byte s (at + n) in
      rw (before-pair a b last, last-pair a b last, pairs-run n more)

  pub pairs_below : (n : ℕ) → are_pairs s at n ≡ true → pairs_value s at n < 100 ^ n
  unfolding are_pairs pairs_value
  pairs_below zero e = lit< tt
  pairs_below (suc n) e =
      let (more, last) = both (are_pairs s at n) (is_pair (byte s (at + n))) e in
      let h = pairs_below n more in
      omega (arith, before-pair (pairs_value s at n) (byte s (at + n)) last, pow-suc 100 n)
