-- What holds of each element of a list. Assumes nothing.
use mathlib.Core.List.{List, [], ◌∷◌, ◌++◌}
use Prim.Native.Nat.{ℕ, zero, suc, ◌<◌}
use native.Mathlib.Nat.{le_of_suc-le-suc, not-suc-le-zero}
use lib.ListN.{length, get_or}

pub data Each {A : Type 0} (P : A → Type 0) : List A → Type 0 where
  none : Each P []
  more : {a : A} {s : List A} → P a → Each P s → Each P (a ∷ s)

module _ {A : Type 0} {P : A → Type 0} where
  pub append : {s t : List A} → Each P s → Each P t → Each P (s ++ t)
  append none q = q
  append (more p r) q = more p (append r q)

  pub at : {s : List A} → Each P s → (d : A) (i : ℕ) → i < length s → P (get_or s i d)
  at none d i h = absurd (not-suc-le-zero h)
  at (more p r) d zero h = p
  at (more p r) d (suc i) h = at r d i (le_of_suc-le-suc h)

  pub weaken : {Q : A → Type 0} {s : List A} → ((a : A) → P a → Q a) → Each P s → Each Q s
  weaken f none = none
  weaken f (more {a} p r) = more (f a p) (weaken f r)
