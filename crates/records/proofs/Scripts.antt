-- A record that is a script's, its body without a byte, or a first byte and what is behind it; and one that is not. Assumes nothing.
use mathlib.Core.Path.{◌≡◌, refl, sym, ap}
use mathlib.Core.Bool.{Bool, true, false, cond, ◌&&◌}
use mathlib.Core.Logic.{◌⊎◌, inl, inr}
use mathlib.Core.List.{List, [], ◌∷◌}
use Prim.Native.Nat.{ℕ, ◌-◌}
use native.Mathlib.Omega.{arith}
use borrow.Author.Tests.{ne_eqb}
use lib.Dec.{eqb}
use lib.ListN.{length, get_or, take, drop}
use lib.Seq.{take_all}
use Rattle.refusal.specs.declared.Refusal.TheVariants.{Unreadable}
use Rattle.state.specs.declared.State.{State}
use Rattle.scripting.specs.Scripting.{script_step, script_writes}
use Rattle.records.specs.declared.Event.TheVariants.{Refused, Answered}
use Rattle.records.specs.declared.Said.TheVariants.{Script}
use Rattle.records.specs.Records.{scripted_by, body_writes}

module _ (state : State) (end : ℕ) where
  pub without : (body : List ℕ) → length body ≡ 0
      → (record { state = state; at = end; event = Refused Unreadable } ≡ scripted_by state body end) × ([] ≡ body_writes state body)
  unfolding scripted_by body_writes
  without [] h = (refl, refl)
  without (result ∷ template) h = let z : ⊥ = omega arith in absurd z

  pub with_template : (body : List ℕ) → (length body ≡ 0 → ⊥) →
      let template = take (length body - 1) (drop 1 body) in
      let outcome = script_step state (get_or body 0 0) template in
      (record { state = outcome.state; at = end; event = Answered Script outcome.answer } ≡ scripted_by state body end)
      × (script_writes state (get_or body 0 0) template ≡ body_writes state body)
  unfolding scripted_by body_writes
  with_template [] h = absurd (h refl)
  with_template (result ∷ template) h = rw (take_all (length (result ∷ template) - 1) template (omega arith)) (refl, refl)

-- scripts are off, or it is another kind
pub not_script : {P Q : Type 0} (on : Bool) (kind : ℕ) → (P → kind ≡ 5 → ⊥) → (Q → on ≡ false) → P ⊎ Q → (on && eqb kind 5) ≡ false
not_script true kind other off (inl p) = ne_eqb kind 5 (other p)
not_script false kind other off (inl p) = refl
not_script on kind other off (inr q) = ap (λ b. b && eqb kind 5) (off q)
