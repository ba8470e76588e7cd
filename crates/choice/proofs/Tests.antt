-- Two tests at once. Assumes nothing.
use mathlib.Core.Path.{◌≡◌, refl}
use mathlib.Core.Bool.{Bool, true, false, ◌&&◌}
use Prim.Native.Nat.{ℕ, ◌≤◌}
use native.Mathlib.Omega.{arith}
use borrow.Author.Tests.{leb-true}
use lib.Dec.{leb}

-- what two tests say where both hold
pub both : (a b c d : ℕ) → (leb a b && leb c d) ≡ true → (a ≤ b) × (c ≤ d)
both a b c d e = by (leb a b) (leb c d) refl refl e where
  by : (p q : Bool) → leb a b ≡ p → leb c d ≡ q → (p && q) ≡ true → (a ≤ b) × (c ≤ d)
  by true true h k e = (leb-true a b h, leb-true c d k)
  by true false h k e = let z : ◌≡◌ {A = ℕ} 0 1 = cc in (omega arith, omega arith)
  by false q h k e = let z : ◌≡◌ {A = ℕ} 0 1 = cc in (omega arith, omega arith)
