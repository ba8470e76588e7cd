-- A number that is neither 0 nor above 4 is one of four. Assumes nothing.
use mathlib.Core.Path.{◌≡◌, refl}
use mathlib.Core.Bool.{Bool, true, false, ◌||◌}
use Prim.Native.Nat.{ℕ, ◌≤◌}
use native.Mathlib.Omega.{arith}
use borrow.Author.Tests.{ltb-false, eqb-false}
use lib.Dec.{eqb, ltb}

pub one_of_four : (n : ℕ) → (eqb n 0 || ltb 4 n) ≡ false → (1 ≤ n) × (n ≤ 4)
one_of_four n e = by (eqb n 0) (ltb 4 n) refl refl e where
  by : (none over : Bool) → eqb n 0 ≡ none → ltb 4 n ≡ over → (none || over) ≡ false → (1 ≤ n) × (n ≤ 4)
  by false false h k e = let some = eqb-false n 0 h in (omega arith, ltb-false 4 n k)
  by false true h k e = let z : ◌≡◌ {A = ℕ} 0 1 = cc in (omega arith, omega arith)
  by true over h k e = let z : ◌≡◌ {A = ℕ} 0 1 = cc in (omega arith, omega arith)
