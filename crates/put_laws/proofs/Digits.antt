-- Amounts in 12 digits, there and back. Assumes nothing.
use mathlib.Core.Path.{◌≡◌, refl, sym, ap, ◌∙◌}
use mathlib.Core.Bool.{Bool, true, ◌&&◌}
use mathlib.Core.List.{List, ◌++◌}
use Prim.Native.Nat.{ℕ, zero, suc, ◌+◌, ◌*◌, ◌≤◌}
use native.Mathlib.Omega.{arith}
use Rattle.wire.specs.Wire.{byte, is_pair, pair_value}
use Rattle.wire.proofs.Pairs.{pair-value, pair_is}
use Rattle.money.specs.Money.{max}
use Rattle.digits.specs.Digits.{are_pairs, pairs_value}
use Rattle.iad.specs.Iad.{pairs_of, are_pairs as iad_pairs, pairs_value as iad_value}
use Rattle.iad.proofs.Runs.{run, pairs-run, pairs_below}

-- an amount, and each of two
pub are-pairs : (a : ℕ) → are_pairs (pairs_of a 6) 0 6 ≡ true
unfolding pairs_of are_pairs
are-pairs a = simp pair_is

pub amount : (a : ℕ) → a ≤ max → pairs_value (pairs_of a 6) 0 6 ≡ a
unfolding pairs_of pairs_value
amount a h = simp pair-value (omega arith)

module _ (a b : ℕ) where
  pub are-first : are_pairs (pairs_of a 6 ++ pairs_of b 6) 0 6 ≡ true
  unfolding pairs_of are_pairs
  are-first = simp pair_is

  pub are-second : are_pairs (pairs_of a 6 ++ pairs_of b 6) 6 6 ≡ true
  unfolding pairs_of are_pairs
  are-second = simp pair_is

  pub first : a ≤ max → pairs_value (pairs_of a 6 ++ pairs_of b 6) 0 6 ≡ a
  unfolding pairs_of pairs_value
  first h = simp pair-value (omega arith)

  pub second : b ≤ max → pairs_value (pairs_of a 6 ++ pairs_of b 6) 6 6 ≡ b
  unfolding pairs_of pairs_value
  second h = simp pair-value (omega arith)

-- the other way: digits are those of the amount that they write, which is at most MAX
same-pairs : (s : List ℕ) (at n : ℕ) → iad_pairs s at n ≡ are_pairs s at n
unfolding iad_pairs are_pairs
same-pairs s at zero = refl
same-pairs s at (suc n) = ap (λ (t : Bool). t && is_pair (byte s (at + n))) (same-pairs s at n)

same-value : (s : List ℕ) (at n : ℕ) → iad_value s at n ≡ pairs_value s at n
unfolding iad_value pairs_value
same-value s at zero = refl
same-value s at (suc n) = ap (λ (v : ℕ). v * 100 + pair_value (byte s (at + n))) (same-value s at n)

module _ (s : List ℕ) (at : ℕ) (h : are_pairs s at 6 ≡ true) where
  pub pairs_back : pairs_of (pairs_value s at 6) 6 ≡ run s at 6
  pairs_back = ap (λ (v : ℕ). pairs_of v 6) (sym (same-value s at 6)) ∙ pairs-run s at 6 (same-pairs s at 6 ∙ h)

  pub at_most : pairs_value s at 6 ≤ max
  at_most = omega (arith, same-value s at 6, pairs_below s at 6 (same-pairs s at 6 ∙ h))
