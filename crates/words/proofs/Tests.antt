-- Tests joined by "and" and "or"; words that are the same. Assumes nothing.
use mathlib.Core.Path.{◌≡◌, refl, ap₂}
use mathlib.Core.Bool.{Bool, true, false, ◌&&◌, ◌||◌}
use mathlib.Core.List.{List, [], ◌∷◌, ◌++◌}
use Prim.Native.Nat.{ℕ}
use borrow.Author.Tests.{eqb-true, eq-eqb}
use lib.Dec.{eqb}
use Rattle.std.specs.List.{list_all}
use Rattle.words.specs.Words.{same, all}

pub both : (a b : Bool) → (a && b) ≡ true → (a ≡ true) × (b ≡ true)
both true b e = (refl, e)
both false b e = (e, cc)

pub and : (a b : Bool) → a ≡ true → b ≡ true → (a && b) ≡ true
and a b p q = rw (p, q)

pub neither : (a b : Bool) → (a || b) ≡ false → (a ≡ false) × (b ≡ false)
neither true b e = (e, cc)
neither false b e = (refl, e)

pub same_refl : (s : List ℕ) → same s s ≡ true
same_refl [] = refl
same_refl (c ∷ s) = rw (eq-eqb c c refl, same_refl s)

pub same_true : (s t : List ℕ) → same s t ≡ true → s ≡ t
same_true [] [] e = refl
same_true [] (d ∷ t) e = cc
same_true (c ∷ s) [] e = cc
same_true (c ∷ s) (d ∷ t) e =
    let h = both (eqb c d) (same s t) e in
    ap₂ ◌∷◌ (eqb-true c d h.0) (same_true s t h.1)

pub all_append : (test : ℕ → Bool) (s t : List ℕ) → all test s ≡ true → all test t ≡ true → all test (s ++ t) ≡ true
unfolding all
all_append test [] t p q = q
all_append test (c ∷ s) t p q =
    let h = both (test c) (all test s) p in
    and (test c) (all test (s ++ t)) h.0 (all_append test s t h.1 q)

pub all-is : (test : ℕ → Bool) (s : List ℕ) → list_all test s ≡ all test s
unfolding all
all-is test [] = refl
all-is test (c ∷ s) = rw (all-is test s)
