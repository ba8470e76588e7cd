-- What holds at each of n places, one more place at a time: digits and zeros. Assumes nothing.
use mathlib.Core.Path.{◌≡◌, refl, subst}
use mathlib.Core.Bool.{Bool, true, false, ◌&&◌}
use mathlib.Core.List.{List}
use mathlib.Core.Logic.{◌⊎◌, inl, inr}
use Prim.Native.Nat.{ℕ, zero, suc, ◌+◌, ◌*◌, ◌/◌, ◌%◌, ◌≤◌, ◌<◌}
use native.Mathlib.Omega.{arith}
use borrow.Author.Tests.{ltb-true, ltb-false, leb-true, le-leb}
use lib.Dec.{ltb, leb}
use Rattle.wire.specs.Wire.{byte, number, is_pair}
use Rattle.wire.proofs.Pairs.{both}
use Rattle.iad.specs.Iad.{are_pairs}

-- the two sides of a test
pub sides : (m n : ℕ) → (m ≤ n) ⊎ (n < m)
sides m n = by (ltb n m) refl where
  by : (t : Bool) → ltb n m ≡ t → (m ≤ n) ⊎ (n < m)
  by true e = inr (ltb-true n m e)
  by false e = inl (ltb-false n m e)

pub on : {P Q R : Type 0} → P ⊎ Q → (P → R) → (Q → R) → R
on (inl p) f g = f p
on (inr q) f g = g q

pub one_more_lem : (P : ℕ → Type 0) (n : ℕ) → ((i : ℕ) → i < n → P i) → P n → (i : ℕ) → i < suc n → P i
one_more_lem P n before last i h = by (ltb i n) refl where
  by : (t : Bool) → ltb i n ≡ t → P i
  by true e = before i (ltb-true i n e)
  by false e = let past = ltb-false i n e in let same : n ≡ i = omega arith in subst P same last

abbrev pub IsPair : ℕ → Type 0
IsPair b = (b / 16 ≤ 9) × (b % 16 ≤ 9)

is-pair : (b : ℕ) → is_pair b ≡ true → IsPair b
is-pair b e =
    let (u, l) = both (leb (b / 16) 9) (leb (b % 16) 9) e in
    (leb-true (b / 16) 9 u, leb-true (b % 16) 9 l)

module _ (s : List ℕ) (at : ℕ) where
  pub pairs-each : (n : ℕ) → are_pairs s at n ≡ true → (i : ℕ) → i < n → IsPair (byte s (at + i))
  unfolding are_pairs
  pairs-each zero e i h = absurd (omega arith)
  pairs-each (suc n) e i h =
      let (before, last) = both (are_pairs s at n) (is_pair (byte s (at + n))) e in
      one_more_lem (λ i. IsPair (byte s (at + i))) n (pairs-each n before) (is-pair (byte s (at + n)) last) i h

  pub each-pairs : (n : ℕ) → ((i : ℕ) → i < n → IsPair (byte s (at + i))) → are_pairs s at n ≡ true
  unfolding are_pairs
  each-pairs zero p = refl
  each-pairs (suc n) p =
      let (u, l) = p n (omega arith) in
      rw (each-pairs n (λ i h. p i (omega arith)), le-leb (byte s (at + n) / 16) 9 u, le-leb (byte s (at + n) % 16) 9 l)

  pub zeros-each : (n : ℕ) → number s at n ≡ 0 → (i : ℕ) → i < n → byte s (at + i) ≡ 0
  unfolding number
  zeros-each zero e i h = absurd (omega arith)
  zeros-each (suc n) e i h = one_more_lem (λ i. byte s (at + i) ≡ 0) n (zeros-each n (omega arith)) (omega arith) i h

  pub each-zeros : (n : ℕ) → ((i : ℕ) → i < n → byte s (at + i) ≡ 0) → number s at n ≡ 0
  unfolding number
  each-zeros zero p = refl
  each-zeros (suc n) p =
      let last = p n (omega arith) in
      let before = each-zeros n (λ i h. p i (omega arith)) in
      omega arith
