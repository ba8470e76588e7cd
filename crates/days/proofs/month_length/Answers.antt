use borrow.Author.Rules.{rules}
use borrow.Author.Tests.{eq-eqb, ne_eqb}
use mathlib.Core.Path.{◌≡◌}
use mathlib.Core.Logic.{inl, inr}
use mathlib.Core.List.{[], ◌∷◌}
use Prim.Native.Nat.{ℕ}
use types.Run.{OneOf}
use Rattle.days.specs.Days.{month_length}
use Rattle.days.proofs.month_length.Goals as goal

thirty : (year month : ℕ) → OneOf (4 ∷ 6 ∷ 9 ∷ 11 ∷ []) month → 30 ≡ month_length year month
thirty year month (inl e) = simp (e)
thirty year month (inr (inl e)) = simp (e)
thirty year month (inr (inr (inl e))) = simp (e)
thirty year month (inr (inr (inr e))) = simp (e)

other : (year month : ℕ) → (OneOf (2 ∷ []) month → ⊥) → (OneOf (4 ∷ 6 ∷ 9 ∷ 11 ∷ []) month → ⊥) → 31 ≡ month_length year month
other year month f g =
    simp (
      ne_eqb month 2 f,
      ne_eqb month 4 (λ e. g (inl e)),
      ne_eqb month 6 (λ e. g (inr (inl e))),
      ne_eqb month 9 (λ e. g (inr (inr (inl e)))),
      ne_eqb month 11 (λ e. g (inr (inr (inr e)))),
    )

pub returns-then-is_leap : goal.returns-then-is_leap
returns-then-is_leap c = simp (eq-eqb _ _ c.in-2.is, ← c.is_leap.ensures, c.if-is_leap.true)

pub returns-else-is_leap : goal.returns-else-is_leap
returns-else-is_leap c = simp (eq-eqb _ _ c.in-2.is, ← c.is_leap.ensures, c.if-is_leap.false)

pub returns-in-4 : goal.returns-in-4
returns-in-4 c = thirty c.args.year c.args.month c.in-4.is
