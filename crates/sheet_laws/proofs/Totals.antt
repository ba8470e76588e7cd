-- Totals over tallies: of two lists, of tallies that add the same, and in any order. Assumes nothing.
use mathlib.Core.Path.{◌≡◌, refl, sym, ap, ap₂, ◌∙◌}
use mathlib.Core.List.{List, [], ◌∷◌, ◌++◌}
use mathlib.Core.List.{Permᴰ}
use Prim.Native.Nat.{ℕ, suc, ◌+◌}
use native.Mathlib.Omega.{arith}
use lib.ListN.{length}
use Rattle.tallies.specs.Tallies.{Tally}
use Rattle.sheet_laws.specs.Class.{total, joined}

pub total_append : (of : Tally → ℕ) (s t : List Tally) → total of (s ++ t) ≡ total of s + total of t
unfolding total
total_append of [] t = omega arith
total_append of (tally ∷ s) t = omega (arith, total_append of s t)

pub total-same : (of on : Tally → ℕ) → ((tally : Tally) → of tally ≡ on tally) → (s : List Tally) → total of s ≡ total on s
unfolding total
total-same of on same [] = refl
total-same of on same (tally ∷ s) = ap₂ (λ m n. m + n) (same tally) (total-same of on same s)

pub total-none : (of : Tally → ℕ) → ((tally : Tally) → of tally ≡ 0) → (s : List Tally) → total of s ≡ 0
unfolding total
total-none of nothing [] = refl
total-none of nothing (tally ∷ s) = omega (arith, nothing tally, total-none of nothing s)

-- one tally behind others
pub total-one : (of : Tally → ℕ) (s : List Tally) (tally : Tally) → total of (s ++ tally ∷ []) ≡ total of s + of tally
unfolding total
total-one of s tally = omega (arith, total_append of s (tally ∷ []))

pub unmoved : (of : Tally → ℕ) (s : List Tally) (tally : Tally) → of tally ≡ 0 → total of s ≡ total of (s ++ tally ∷ [])
unmoved of s tally e = omega (arith, total-one of s tally)

pub same_length : {A : Type 0} {ps qs : List A} → Permᴰ ps qs → length ps ≡ length qs
same_length Permᴰ.nil = refl
same_length (Permᴰ.cons e d) = ap suc (same_length d)
same_length (Permᴰ.swap e f) = refl
same_length (Permᴰ.trans d e) = same_length d ∙ same_length e

-- IN ANY ORDER of the papers
pub any_order : (of : Tally → ℕ) {ps qs : List (List Tally)} → Permᴰ ps qs → total of (joined ps) ≡ total of (joined qs)
unfolding joined
any_order of Permᴰ.nil = refl
any_order of (Permᴰ.cons {a = p} {b = q} {l₁ = ps} {l₂ = qs} e d) =
    omega (arith, total_append of p (joined ps), total_append of q (joined qs), ap (total of) e, any_order of d)
any_order of (Permᴰ.swap {a = p} {b = q} {a' = p'} {b' = q'} {l = more} e f) =
    omega (
      arith,
      total_append of p (q ++ joined more),
      total_append of q (joined more),
      total_append of p' (q' ++ joined more),
      total_append of q' (joined more),
      ap (total of) e,
      ap (total of) f,
    )
any_order of (Permᴰ.trans d e) = any_order of d ∙ any_order of e
