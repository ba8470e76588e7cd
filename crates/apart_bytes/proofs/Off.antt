-- OFF BY THE BYTES OF A SET-UP IS OFF BY THE RULES THAT IT GIVES, whatever scripts wrote. Assumes nothing.
use mathlib.Core.Path.{◌≡◌, refl, sym, ap, subst, ◌∙◌}
use mathlib.Core.Bool.{Bool, true, false, cond}
use Prim.Native.Nat.{ℕ, ◌+◌, ◌*◌, ◌≤◌}
use native.Mathlib.Omega.{arith}
use borrow.Author.Tests.{ltb-true, ltb-false, le-ltb}
use lib.Dec.{ltb}
use lib.ListN.{get_or}
use Rattle.rules.specs.declared.Place.{Place}
use Rattle.rules.specs.declared.Place.TheVariants.{One, Two, Three, Four}
use Rattle.rules.specs.declared.AccumulatorRule.{AccumulatorRule}
use Rattle.rules.specs.declared.CounterRule.{CounterRule}
use Rattle.rules.specs.declared.Sent.{Sent}
use Rattle.rules.specs.Rules.{Profile, blank_profile, blank_accumulator, blank_counter, index_of, profile_at}
use Rattle.rules.proofs.Places.{four-at}
use Rattle.setup.specs.Setup.{profile_in, rules_in}
use Rattle.purchase.specs.Meter.{Meter, accumulator, counter, cyclic, IsMeter, MeterRule, rule_of}
use Rattle.demands.specs.Setup.{Setup, byte_at}
use Rattle.demands.specs.Conversation.{rules_by}
use Rattle.demands.specs.Audit.{is_active}
use Rattle.demands.proofs.Written.{stays, accumulator-written, counter-written, given, given-whole}
use Rattle.demands.proofs.Bytes.{Stands, sent_is, rule-read}
use Rattle.apart.specs.Off.{IsUnsent, IsOff}
use Rattle.apart_papers.specs.Start.{IsSwitch}
use Rattle.apart_bytes.specs.Off.{IsUnsentIn, IsOffIn, offset_of}

a_meter : (x : Meter) → IsSwitch x → IsMeter x
a_meter (accumulator i) is = is
a_meter (counter i) is = is
a_meter (cyclic i) is = absurd is

-- ---- a profile that stands in the bytes

module _ (setup : Setup) (place : Place) (at : ℕ) (stands : Stands setup place at) where
  active-is : (x : Meter) → IsSwitch x → (rule_of (rules_by setup) place x).active ≡ is_active setup at x
  active-is x is = ap (λ (rule : MeterRule). rule.active) (rule-read setup place at stands x (a_meter x is))

  unsent-by : (x : Meter) → IsUnsentIn setup at x → IsUnsent (profile_at (rules_by setup) place).sent x
  unfolding profile_in
  unsent-by (accumulator i) unsent = subst (λ (sent : Sent). IsUnsent sent (accumulator i)) (sym (sent_is setup place at stands)) unsent
  unsent-by (counter i) unsent = subst (λ (sent : Sent). IsUnsent sent (counter i)) (sym (sent_is setup place at stands)) unsent
  unsent-by (cyclic i) unsent = tt

  unsent-read : (x : Meter) → IsUnsent (profile_at (rules_by setup) place).sent x → IsUnsentIn setup at x
  unfolding profile_in
  unsent-read (accumulator i) unsent = subst (λ (sent : Sent). IsUnsent sent (accumulator i)) (sent_is setup place at stands) unsent
  unsent-read (counter i) unsent = subst (λ (sent : Sent). IsUnsent sent (counter i)) (sent_is setup place at stands) unsent
  unsent-read (cyclic i) unsent = tt

  -- THE ONE IF AND ONLY IF THE OTHER
  pub off-exactly : (x : Meter) → IsSwitch x → (IsOffIn setup x at → IsOff (rules_by setup) x place) × (IsOff (rules_by setup) x place → IsOffIn setup x at)
  off-exactly x is = (
    λ off. record { inactive = active-is x is ∙ off.inactive; unsent = unsent-by x off.unsent },
    λ off. record { inactive = sym (active-is x is) ∙ off.inactive; unsent = unsent-read x off.unsent },
  )

-- ---- a place at which none stands

module _ (setup : Setup) (place : Place) where
  at_place : (place : Place)
      → profile_at (given setup) place ≡ cond (ltb (index_of place) (byte_at setup 3)) (profile_in setup.bytes (52 + 107 * index_of place)) blank_profile
  unfolding rules_in
  at_place One = refl
  at_place Two = refl
  at_place Three = refl
  at_place Four = refl

  module _ (none : byte_at setup 3 ≤ index_of place) where
    blank : profile_at (given setup) place ≡ blank_profile
    blank =
        at_place place
        ∙ ap (λ (b : Bool). cond b (profile_in setup.bytes (52 + 107 * index_of place)) blank_profile) (le-ltb (index_of place) (byte_at setup 3) none)

    blank-active : (x : Meter) → IsSwitch x → (rule_of (rules_by setup) place x).active ≡ false
    blank-active (accumulator i) is =
        ap (λ (rule : MeterRule). rule.active) (accumulator-written (given setup) (given-whole setup) place i is setup.written)
        ∙ ap (λ (profile : Profile). (get_or profile.accumulators i blank_accumulator).active) blank
        ∙ ap (λ (rule : AccumulatorRule). rule.active) (four-at (λ j. blank_accumulator) blank_accumulator i is)
    blank-active (counter i) is =
        ap (λ (rule : MeterRule). rule.active) (counter-written (given setup) (given-whole setup) place i is setup.written)
        ∙ ap (λ (profile : Profile). (get_or profile.counters i blank_counter).active) blank
        ∙ ap (λ (rule : CounterRule). rule.active) (four-at (λ j. blank_counter) blank_counter i is)
    blank-active (cyclic i) is = absurd is

    none-sent : (x : Meter) → IsUnsent blank_profile.sent x
    none-sent (accumulator i) = λ e. omega arith
    none-sent (counter i) = (λ e. omega arith, λ e. omega arith)
    none-sent (cyclic i) = tt

    blank-unsent : (x : Meter) → IsUnsent (profile_at (rules_by setup) place).sent x
    blank-unsent x =
        subst (λ (sent : Sent). IsUnsent sent x)
        (sym ((stays (given setup) setup.written).sent place ∙ ap (λ (profile : Profile). profile.sent) blank)) (none-sent x)

-- AT EVERY PLACE
pub off-by-bytes : (setup : Setup) (x : Meter) → IsSwitch x → (place : Place) → IsOffIn setup x (offset_of place) → IsOff (rules_by setup) x place
off-by-bytes setup x is place off = by (ltb (index_of place) (byte_at setup 3)) refl where
  by : (b : Bool) → ltb (index_of place) (byte_at setup 3) ≡ b → IsOff (rules_by setup) x place
  by true e = (off-exactly setup place (offset_of place) (record { there = ltb-true _ _ e; offset = refl }) x is).0 off
  by false e =
      let none = ltb-false (index_of place) (byte_at setup 3) e in
      record { inactive = blank-active setup place none x is; unsent = blank-unsent setup place none x }
