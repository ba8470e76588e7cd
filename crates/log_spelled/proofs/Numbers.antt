-- The numbers of a set-up's profiles: all different, and none of them 0. Assumes nothing.
use mathlib.Core.Path.{◌≡◌, refl, sym, ap}
use mathlib.Core.List.{List, [], ◌∷◌}
use Prim.Native.Nat.{ℕ, zero, suc, ◌≤◌, ◌<◌}
use native.Mathlib.Omega.{arith}
use lib.ListN.{length, get_or}
use Rattle.rules.specs.Rules.{blank_profile}
use Rattle.rows.specs.Rows.{Profile}
use Rattle.rows.specs.Said.{profile_said, said_at}
use Rattle.rows.specs.InRange.{Each, NoTwo, ProfileRange, SameNumber}

-- the number of the profile at a place, 0 where there is none
abbrev pub number_at : List Profile → ℕ → ℕ
number_at profiles i = (said_at profile_said blank_profile profiles i).number

pub number-there : (profiles : List Profile) (i : ℕ) → i < length profiles → (d : Profile) → number_at profiles i ≡ (get_or profiles i d).number
unfolding profile_said
number-there [] i h d = absurd (omega arith)
number-there (p ∷ profiles) zero h d = refl
number-there (p ∷ profiles) (suc i) h d = number-there profiles i (omega arith) d

apart_from : (p : Profile) (profiles : List Profile) → Each (λ (q : Profile). SameNumber p q → ⊥) profiles → 1 ≤ p.number
    → (i : ℕ) → number_at profiles i ≡ p.number → ⊥
unfolding profile_said
apart_from p [] r h i e = omega arith
apart_from p (q ∷ profiles) r h zero e = r.0 (sym e)
apart_from p (q ∷ profiles) r h (suc i) e = apart_from p profiles r.1 h i e

-- no other place has the number of a profile
pub apart : (unnamed : ℕ) (profiles : List Profile) → Each (ProfileRange unnamed) profiles → NoTwo SameNumber profiles
    → (i j : ℕ) → i < length profiles → (j ≡ i → ⊥) → number_at profiles j ≡ number_at profiles i → ⊥
unfolding profile_said
apart unnamed [] r n i j h other e = omega arith
apart unnamed (p ∷ profiles) r n zero zero h other e = other refl
apart unnamed (p ∷ profiles) r n zero (suc j) h other e = apart_from p profiles n.0 r.0.number-least j e
apart unnamed (p ∷ profiles) r n (suc i) zero h other e = apart_from p profiles n.0 r.0.number-least i (sym e)
apart unnamed (p ∷ profiles) r n (suc i) (suc j) h other e = apart unnamed profiles r.1 n.1 i j (omega arith) (λ q. other (ap suc q)) e
