-- A profile that is found has the number asked for, and where none is found none has it. Assumes nothing.
use mathlib.Core.Path.{◌≡◌, refl}
use mathlib.Core.Bool.{Bool, true, false, cond}
use Prim.Native.Nat.{ℕ, zero, suc, ◌≤◌, ◌<◌}
use native.Mathlib.Omega.{arith}
use borrow.Author.Tests.{eqb-true, eqb-false}
use lib.Dec.{eqb}
use lib.ListN.{get_or}
use Rattle.rules.specs.declared.Place.{Place}
use Rattle.rules.specs.declared.Place.TheVariants.{One, Two, Three, Four}
use Rattle.rules.specs.Rules.{Rules, blank_profile, index_of, profile_at, place_or, find_profile}
use Rattle.std.specs.Prelude.{None, Option, Some}

pub below-four : (place : Place) → index_of place < 4
below-four One = omega arith
below-four Two = omega arith
below-four Three = omega arith
below-four Four = omega arith

pub record Holds (rules : Rules) (number : ℕ) (place : Place) : Type 0 where
  pub some : 1 ≤ number
  pub its : (profile_at rules place).number ≡ number

module _ (rules : Rules) (number : ℕ) where
  abbrev pub Known : Option Place → Type 0
  Known (Some place) = Holds rules number place
  Known None = 1 ≤ number → (i : ℕ) → i < 4 → (get_or rules.profiles i blank_profile).number ≡ number → ⊥

  at_place : (place : Place) (elsewhere : Option Place) → 1 ≤ number → (((profile_at rules place).number ≡ number → ⊥) → Known elsewhere)
      → Known (cond (eqb (profile_at rules place).number number) (Some place) elsewhere)
  at_place place elsewhere some h = by (eqb (profile_at rules place).number number) refl where
    by : (b : Bool) → eqb (profile_at rules place).number number ≡ b → Known (cond b (Some place) elsewhere)
    by true e = record { some = some; its = eqb-true _ _ e }
    by false e = h (eqb-false _ _ e)

  nowhere : ((profile_at rules One).number ≡ number → ⊥) → ((profile_at rules Two).number ≡ number → ⊥)
      → ((profile_at rules Three).number ≡ number → ⊥) → ((profile_at rules Four).number ≡ number → ⊥)
      → (i : ℕ) → i < 4 → (get_or rules.profiles i blank_profile).number ≡ number → ⊥
  nowhere one two three four zero l = one
  nowhere one two three four (suc zero) l = two
  nowhere one two three four (suc (suc zero)) l = three
  nowhere one two three four (suc (suc (suc zero))) l = four
  nowhere one two three four (suc (suc (suc (suc i)))) l = λ e. omega arith

  pub known : Known (find_profile rules number)
  unfolding find_profile
  known = by (eqb number 0) refl where
    by : (b : Bool) → eqb number 0 ≡ b
        → Known (cond b None (place_or rules One number (place_or rules Two number (place_or rules Three number (place_or rules Four number None)))))
    by true e = λ some. let z = eqb-true number 0 e in absurd (omega arith)
    by false e =
        let some : 1 ≤ number = omega (arith, eqb-false number 0 e) in
        at_place One _ some (λ one. at_place Two _ some (λ two. at_place Three _ some (λ three. at_place Four _ some (λ four.
        λ _. nowhere one two three four))))
