-- Rules with what scripts wrote: what stays, and whose limits were written last. Assumes nothing.
use mathlib.Core.Path.{◌≡◌, refl, sym, ap, ◌∙◌}
use mathlib.Core.Bool.{Bool, true, false, cond}
use mathlib.Core.List.{List, [], ◌∷◌}
use Prim.Native.Nat.{ℕ, zero, suc, ◌+◌, ◌*◌, ◌<◌}
use borrow.Author.Tests.{eqb-true, eqb-false}
use lib.Dec.{ltb, eqb}
use lib.ListN.{length, get_or}
use Rattle.rules.specs.declared.Place.{Place}
use Rattle.rules.specs.Rules.{Profile, Rules, accumulator_rule, counter_rule, blank_profile}
use Rattle.rules.specs.Limits.{with_accumulator_limits, with_counter_limits}
use Rattle.rules.proofs.Limits.{Whole, Stays, accumulator_limited, counter_limited}
use Rattle.setup.specs.Setup.{profile_in, rules_in}
use Rattle.purchase.specs.Meter.{MeterRule, accumulating, counting}
use Rattle.element.specs.declared.Write.{Write}
use Rattle.element.specs.declared.Write.TheVariants.{Value, AccumulatorLimits, CounterLimits}
use Rattle.script.specs.Script.{rules_after}
use Rattle.script.proofs.Stays.{stays_refl, stays_trans, rules_stay, rules-whole}
use Rattle.demands.specs.Setup.{Setup, byte_at}
use Rattle.demands.specs.Conversation.{rules_written}
use Rattle.demands.specs.Audit.{place_from, place_of, Limits, accumulator_limits, counter_limits, newest, with_writes}

-- a rule with other limits
abbrev pub limited_to : Limits → MeterRule → MeterRule
limited_to limits rule =
    record {
      active = rule.active;
      allow = rule.allow;
      include = rule.include;
      declines = rule.declines;
      lower = limits.lower;
      upper = limits.upper;
    }

abbrev pub its_limits : MeterRule → Limits
its_limits rule = record { lower = rule.lower; upper = rule.upper }

module _ (rules : Rules) where
  pub stays : (writes : List Write) → Stays rules (rules_written rules writes)
  stays [] = stays_refl rules
  stays (write ∷ older) =
      let before = rules_written rules older in
      stays_trans rules before (rules_after before (write ∷ [])) (stays older) (rules_stay before (write ∷ []))

  pub still_whole : Whole rules → (writes : List Write) → Whole (rules_written rules writes)
  still_whole whole [] = whole
  still_whole whole (write ∷ older) = rules-whole (rules_written rules older) (write ∷ []) (still_whole whole older)

  -- what is written next
  pub after-writes : (writes older : List Write) → rules_written rules (newest writes older) ≡ rules_after (rules_written rules older) writes
  after-writes [] older = refl
  after-writes (write ∷ writes) older = after-writes writes (write ∷ older)

  module _ (whole : Whole rules) (place : Place) (i : ℕ) (l : i < 4) where
    abbrev accumulator_then : List Write → MeterRule
    accumulator_then writes = accumulating (accumulator_rule (rules_written rules writes) place i)

    abbrev counter_then : List Write → MeterRule
    counter_then writes = counting (counter_rule (rules_written rules writes) place i)

    pub accumulator-written : (writes : List Write)
        → accumulator_then writes ≡ limited_to (accumulator_limits i writes (its_limits (accumulator_then []))) (accumulator_then [])
    accumulator-written [] = refl
    accumulator-written (Value slot amount ∷ older) = accumulator-written older
    accumulator-written (CounterLimits slot lower upper ∷ older) =
        ap accumulating ((counter_limited (rules_written rules older) slot lower upper).apart place i) ∙ accumulator-written older
    accumulator-written (AccumulatorLimits slot lower upper ∷ older) = by (eqb slot i) refl (accumulator-written older) where
      before : Rules
      before = rules_written rules older

      by : (b : Bool) → eqb slot i ≡ b
          → accumulator_then older ≡ limited_to (accumulator_limits i older (its_limits (accumulator_then []))) (accumulator_then [])
          → accumulating (accumulator_rule (with_accumulator_limits before slot lower upper) place i)
          ≡ limited_to (cond b (record { lower = lower.0; upper = upper.0 }) (accumulator_limits i older (its_limits (accumulator_then []))))
          (accumulator_then [])
      by true e before-it =
          let these : Limits = record { lower = lower.0; upper = upper.0 } in
          ap (λ s. accumulating (accumulator_rule (with_accumulator_limits before s lower upper) place i)) (eqb-true slot i e)
          ∙ ap accumulating ((accumulator_limited before i lower upper).there (still_whole whole older) l place)
          ∙ ap (limited_to these) before-it
      by false e before-it =
          ap accumulating ((accumulator_limited before slot lower upper).others place i (λ same. eqb-false slot i e (sym same)))
          ∙ before-it

    pub counter-written : (writes : List Write)
        → counter_then writes ≡ limited_to (counter_limits i writes (its_limits (counter_then []))) (counter_then [])
    counter-written [] = refl
    counter-written (Value slot amount ∷ older) = counter-written older
    counter-written (AccumulatorLimits slot lower upper ∷ older) =
        ap counting ((accumulator_limited (rules_written rules older) slot lower upper).apart place i) ∙ counter-written older
    counter-written (CounterLimits slot lower upper ∷ older) = by (eqb slot i) refl (counter-written older) where
      before : Rules
      before = rules_written rules older

      by : (b : Bool) → eqb slot i ≡ b
          → counter_then older ≡ limited_to (counter_limits i older (its_limits (counter_then []))) (counter_then [])
          → counting (counter_rule (with_counter_limits before slot lower upper) place i)
          ≡ limited_to (cond b (record { lower = lower; upper = upper }) (counter_limits i older (its_limits (counter_then [])))) (counter_then [])
      by true e before-it =
          let these : Limits = record { lower = lower; upper = upper } in
          ap (λ s. counting (counter_rule (with_counter_limits before s lower upper) place i)) (eqb-true slot i e)
          ∙ ap counting ((counter_limited before i lower upper).there (still_whole whole older) l place)
          ∙ ap (limited_to these) before-it
      by false e before-it =
          ap counting ((counter_limited before slot lower upper).others place i (λ same. eqb-false slot i e (sym same))) ∙ before-it

-- every profile stands where it stood
pub place-written : (setup : Setup) (writes : List Write) (wanted : ℕ) → place_of (with_writes setup writes) wanted ≡ place_of setup wanted
unfolding place_of
place-written setup writes wanted = by 0 (byte_at setup 3) where
  by : (i n : ℕ) → place_from (with_writes setup writes) wanted i n ≡ place_from setup wanted i n
  by i zero = refl
  by i (suc n) = ap (cond (eqb (byte_at setup (52 + 107 * i)) wanted) (52 + 107 * i)) (by (suc i) n)

-- the rules that stand in a set-up's bytes
abbrev pub given : Setup → Rules
given setup = rules_in setup.bytes setup.tail setup.family setup.syllabus

module _ (setup : Setup) where
  -- of every profile, there or not
  each : (P : Profile → Type 0) → ((b : Bool) (at : ℕ) → P (cond b (profile_in setup.bytes at) blank_profile)) → P blank_profile
      → (n : ℕ) → P (get_or (given setup).profiles n blank_profile)
  unfolding rules_in
  each P some none zero = some (ltb 0 (byte_at setup 3)) 52
  each P some none (suc zero) = some (ltb 1 (byte_at setup 3)) (52 + 107 * 1)
  each P some none (suc (suc zero)) = some (ltb 2 (byte_at setup 3)) (52 + 107 * 2)
  each P some none (suc (suc (suc zero))) = some (ltb 3 (byte_at setup 3)) (52 + 107 * 3)
  each P some none (suc (suc (suc (suc n)))) = none

  pub given-whole : Whole (given setup)
  unfolding rules_in profile_in
  given-whole =
      record {
        profiles = refl;
        accumulators = each (λ p. length p.accumulators ≡ 4) four-accumulators refl;
        counters = each (λ p. length p.counters ≡ 4) four-counters refl;
      }
    where
      four-accumulators : (b : Bool) (at : ℕ) → length (cond b (profile_in setup.bytes at) blank_profile).accumulators ≡ 4
      four-accumulators true at = refl
      four-accumulators false at = refl

      four-counters : (b : Bool) (at : ℕ) → length (cond b (profile_in setup.bytes at) blank_profile).counters ≡ 4
      four-counters true at = refl
      four-counters false at = refl
