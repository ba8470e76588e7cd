-- The digit of a mark. Assumes nothing.
use mathlib.Core.Path.{◌≡◌, refl}
use mathlib.Core.Bool.{Bool, true, false, ◌&&◌, ◌||◌, and-false}
use Prim.Native.Nat.{ℕ}
use borrow.Author.Tests.{ltb-true, ltb-false, le-leb, lt-leb}
use lib.Dec.{leb, ltb}
use Rattle.words.proofs.Tests.{neither}

-- a digit below 1 or above 8 is no size
pub no_size : (d : ℕ) → (ltb d 49 || ltb 56 d) ≡ true → (a : Bool) → (a && leb 49 d && leb d 56) ≡ false
no_size d h a = go (ltb d 49) (ltb 56 d) refl refl h where
  go : (b c : Bool) → ltb d 49 ≡ b → ltb 56 d ≡ c → (b || c) ≡ true → (a && leb 49 d && leb d 56) ≡ false
  go true c e f k = simp (lt-leb 49 d (ltb-true d 49 e), and-false)
  go false true e f k = simp (lt-leb d 56 (ltb-true 56 d f), and-false)
  go false false e f k = cc

pub size_right : (d : ℕ) → (ltb d 49 || ltb 56 d) ≡ false → (leb 49 d ≡ true) × (leb d 56 ≡ true)
size_right d h =
    let (low, high) = neither (ltb d 49) (ltb 56 d) h in
    (le-leb 49 d (ltb-false d 49 low), le-leb d 56 (ltb-false 56 d high))
