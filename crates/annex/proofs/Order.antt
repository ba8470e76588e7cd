-- Numbers of so many bytes, the first byte the highest: how they stand is decided by the first byte in which they differ. Assumes nothing.
use mathlib.Core.Path.{◌≡◌, refl, sym}
use mathlib.Core.Bool.{Bool, true, false}
use Prim.Native.Nat.{ℕ, zero, suc, ◌+◌, ◌*◌, ◌<◌}
use native.Mathlib.Omega.{arith}
use borrow.Author.Tests.{ltb-true, ltb-false}
use lib.Dec.{ltb}
use Rattle.entry.proofs.Compared.{less-at}
use Rattle.annex.specs.Annex.{Same, Smaller}

-- three ways for two numbers to stand
pub data Stand (size : ℕ) (a b : ℕ → ℕ) : Type 0 where
  same : Same size a b → Stand size a b
  smaller : Smaller size a b → Stand size a b
  larger : Smaller size b a → Stand size a b

wider : (n : ℕ) (a b : ℕ → ℕ) → Smaller n a b → Smaller (suc n) a b
wider n a b s = record { differ = s.differ; within = omega arith; before = s.before; smaller = s.smaller }

same_more : (n : ℕ) (a b : ℕ → ℕ) → Same n a b → a n ≡ b n → Same (suc n) a b
same_more n a b s e j h = by (ltb j n) refl
  where
    by : (t : Bool) → ltb j n ≡ t → a j ≡ b j
    by true t = s j (ltb-true j n t)
    by false t = let z : n ≡ j = omega (arith, ltb-false j n t) in rw z at e

at_last : (n : ℕ) (a b : ℕ → ℕ) → Same n a b → (s t : Bool) → ltb (a n) (b n) ≡ s → ltb (b n) (a n) ≡ t → Stand (suc n) a b
at_last n a b h true t e f = smaller (record { differ = n; within = omega arith; before = h; smaller = ltb-true _ _ e })
at_last n a b h false true e f = larger (record { differ = n; within = omega arith; before = λ j l. sym (h j l); smaller = ltb-true _ _ f })
at_last n a b h false false e f = same (same_more n a b h (omega (arith, ltb-false (a n) (b n) e, ltb-false (b n) (a n) f)))

one_more_lem : (n : ℕ) (a b : ℕ → ℕ) → Stand n a b → Stand (suc n) a b
one_more_lem n a b (same h) = at_last n a b h (ltb (a n) (b n)) (ltb (b n) (a n)) refl refl
one_more_lem n a b (smaller s) = smaller (wider n a b s)
one_more_lem n a b (larger s) = larger (wider n b a s)

pub stand : (n : ℕ) (a b : ℕ → ℕ) → Stand n a b
stand zero a b = same (λ j h. absurd (omega arith))
stand (suc n) a b = one_more_lem n a b (stand n a b)

-- a number is smaller than another in one way round only
pub one_way : (n : ℕ) (a b : ℕ → ℕ) → Smaller n a b → Smaller n b a → ⊥
one_way n a b s t = by (ltb s.differ t.differ) (ltb t.differ s.differ) refl refl
  where
    by : (x y : Bool) → ltb s.differ t.differ ≡ x → ltb t.differ s.differ ≡ y → ⊥
    by true y e f = omega (arith, s.smaller, t.before s.differ (ltb-true s.differ t.differ e))
    by false true e f = omega (arith, t.smaller, s.before t.differ (ltb-true t.differ s.differ f))
    by false false e f =
        let z : t.differ ≡ s.differ = omega (arith, ltb-false s.differ t.differ e, ltb-false t.differ s.differ f) in
        let l : b s.differ < a s.differ = rw z at t.smaller in
        omega (arith, s.smaller)

-- x and y: numbers that grow by a byte at each step, from the same
abbrev pub Grows : (ℕ → ℕ) → (ℕ → ℕ) → Type 0
Grows x a = (i : ℕ) → x (suc i) ≡ x i * 256 + a i

module _ (x y a b : ℕ → ℕ) (none : x 0 ≡ y 0) (x-more : Grows x a) (y-more : Grows y b) where
  pub same_number : (n : ℕ) → Same n a b → x n ≡ y n
  same_number zero h = none
  same_number (suc n) h =
      let s = same_number n (λ j l. h j (omega arith)) in
      let e = h n (omega arith) in
      omega (arith, x-more n, y-more n)

  pub smaller-number : ((i : ℕ) → a i < 256) → (n : ℕ) → Smaller n a b → x n < y n
  smaller-number small n s = less-at x y a b x-more y-more small s.differ n s.within (same_number s.differ s.before) s.smaller
