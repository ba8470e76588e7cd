-- Digits in a run of bytes. Assumes nothing.
use mathlib.Core.Path.{◌≡◌, refl, ap₂}
use mathlib.Core.Bool.{Bool, ◌&&◌}
use mathlib.Core.List.{List}
use Prim.Native.Nat.{ℕ, zero, suc, ◌+◌, ◌*◌, ◌^◌, ◌≤◌, ◌<◌}
use native.Mathlib.Nat.{pow-le-pow_right}
use native.Mathlib.Omega.{arith}
use lib.Dec.{lit<}
use Rattle.wire.specs.Wire.{byte, is_pair, pair_value}
use Rattle.digits.specs.Digits.{are_pairs, pairs_value}

-- before the sixth pair an amount is small
pub small : (i : ℕ) → i < 6 → 100 ^ i ≤ 10_000_000_000
small i h = pow-le-pow_right (lit< tt) {i = i} {j = 5} (omega arith)

-- they are those of the bytes, wherever these stand
module _ (s t : List ℕ) (a b : ℕ) where
  pub same-pairs : (n : ℕ) → ((k : ℕ) → k < n → byte s (a + k) ≡ byte t (b + k)) → are_pairs s a n ≡ are_pairs t b n
  unfolding are_pairs
  same-pairs zero h = refl
  same-pairs (suc n) h = ap₂ (λ (p : Bool) (x : ℕ). p && is_pair x) (same-pairs n (λ k l. h k (omega arith))) (h n (omega arith))

  pub same-value : (n : ℕ) → ((k : ℕ) → k < n → byte s (a + k) ≡ byte t (b + k)) → pairs_value s a n ≡ pairs_value t b n
  unfolding pairs_value
  same-value zero h = refl
  same-value (suc n) h = ap₂ (λ (v x : ℕ). v * 100 + pair_value x) (same-value n (λ k l. h k (omega arith))) (h n (omega arith))
