-- A profile stands in the words at its base; what is four times or twice there is found by its index. Assumes nothing.
use mathlib.Core.Path.{◌≡◌, refl, sym, ap, ◌∙◌}
use mathlib.Core.List.{List, []}
use lib.Dec.{eqb}
use Prim.Native.Nat.{ℕ, zero, suc, ◌+◌, ◌≤◌, ◌<◌}
use native.Mathlib.Omega.{arith}
use lib.ListN.{get_or, get_or-eq_default}
use Rattle.rules.specs.declared.Place.{Place}
use Rattle.rules.specs.declared.Place.TheVariants.{One, Two, Three, Four}
use Rattle.rules.specs.Rules.{Profile, two, four, eight, profile_of, cyclic_rule_at, rules_of, index_of, profile_base, profile_at, checks_cashback}
use Rattle.rules.specs.Word as word

pub profile-at : (w : List ℕ) (place : Place) → profile_at (rules_of w) place ≡ profile_of w (profile_base place)
unfolding rules_of
profile-at w One = refl
profile-at w Two = refl
profile-at w Three = refl
profile-at w Four = refl

-- what is read of a profile at its base
pub part_at : {A : Type 0} (part : Profile → A) (w : List ℕ) (place : Place) (at : ℕ) → at ≡ profile_base place
    → part (profile_of w at) ≡ part (profile_at (rules_of w) place)
part_at part w place at e = ap (λ (k : ℕ). part (profile_of w k)) e ∙ sym (ap part (profile-at w place))

-- the rules of its cyclic accumulators
pub cyclic-at : (w : List ℕ) (place : Place)
    → get_or (rules_of w).cyclic_rules (index_of place) [] ≡ two (λ i. cyclic_rule_at w (word.cyclic_rule_from (index_of place) i))
unfolding rules_of
cyclic-at w One = refl
cyclic-at w Two = refl
cyclic-at w Three = refl
cyclic-at w Four = refl

-- whether it checks cashback
pub cashback_at_lem : (w : List ℕ) (place : Place) → checks_cashback (rules_of w) place ≡ eqb (get_or w (word.cashbacks + index_of place) 0) 1
unfolding rules_of
cashback_at_lem w One = refl
cashback_at_lem w Two = refl
cashback_at_lem w Three = refl
cashback_at_lem w Four = refl

-- what holds at 0 to 3 holds below 4
pub each : (P : ℕ → Type 0) → P 0 → P 1 → P 2 → P 3 → (i : ℕ) → i < 4 → P i
each P a b c d zero h = a
each P a b c d (suc zero) h = b
each P a b c d (suc (suc zero)) h = c
each P a b c d (suc (suc (suc zero))) h = d
each P a b c d (suc (suc (suc (suc i)))) h = let z : ⊥ = omega arith in absurd z

-- what holds at 0 and 1 holds below 2
pub both : (P : ℕ → Type 0) → P 0 → P 1 → (i : ℕ) → i < 2 → P i
both P a b zero h = a
both P a b (suc zero) h = b
both P a b (suc (suc i)) h = let z : ⊥ = omega arith in absurd z

module _ {A : Type 0} (f : ℕ → A) (d : A) where
  pub four-at : (i : ℕ) → i < 4 → get_or (four f) i d ≡ f i
  four-at = each _ refl refl refl refl

  pub four-past : (i : ℕ) → 4 ≤ i → get_or (four f) i d ≡ d
  four-past i h = get_or-eq_default (four f) d h

  pub two_at : (i : ℕ) → i < 2 → get_or (two f) i d ≡ f i
  two_at = both _ refl refl

  pub two_past : (i : ℕ) → 2 ≤ i → get_or (two f) i d ≡ d
  two_past i h = get_or-eq_default (two f) d h

  pub eight-at : (i : ℕ) → i < 8 → get_or (eight f) i d ≡ f i
  eight-at zero h = refl
  eight-at (suc zero) h = refl
  eight-at (suc (suc zero)) h = refl
  eight-at (suc (suc (suc zero))) h = refl
  eight-at (suc (suc (suc (suc i)))) h =
      each (λ k. get_or (eight f) (suc (suc (suc (suc k)))) d ≡ f (suc (suc (suc (suc k))))) refl refl refl refl i (omega arith)

  pub eight-past : (i : ℕ) → 8 ≤ i → get_or (eight f) i d ≡ d
  eight-past i h = get_or-eq_default (eight f) d h
