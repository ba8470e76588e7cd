-- A bound of the days before any month. Assumes nothing.
use mathlib.Core.List.{List, [], ◌∷◌}
use Prim.Native.Nat.{ℕ, zero, suc, ◌≤◌}
use native.Mathlib.Omega.{arith}
use lib.ListN.{get_or}
use Rattle.days.specs.Days.{before_months, days_before}

abbrev Most : ℕ → List ℕ → Type 0
Most n [] = Unit
Most n (x ∷ xs) = (x ≤ n) × Most n xs

most : (n : ℕ) (xs : List ℕ) (i : ℕ) → Most n xs → get_or xs i 0 ≤ n
most n [] i h = omega arith
most n (x ∷ xs) zero h = h.0
most n (x ∷ xs) (suc i) h = most n xs i h.1

pub before-most : (month : ℕ) → days_before month ≤ 334
before-most month = most 334 before_months month (omega arith)
