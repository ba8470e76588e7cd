-- The decision bits do not look at the value of a meter that is off: its flags are not set, whatever it is. Assumes nothing.
use mathlib.Core.Path.{◌≡◌, refl, sym, ap, ap₂, fun_ext, ◌∙◌}
use mathlib.Core.Bool.{Bool, true, false, ◌&&◌}
use mathlib.Core.List.{[], ◌∷◌, ◌++◌}
use Prim.Native.Nat.{ℕ}
use native.Mathlib.Omega.{arith}
use Rattle.rules.specs.declared.Place.{Place}
use Rattle.rules.specs.declared.Values.{Values}
use Rattle.rules.specs.Rules.{Rules, four}
use Rattle.purchase.specs.declared.Purchase.{Purchase}
use Rattle.purchase.specs.Meter.{Meter, accumulator, counter, cyclic, rule_of, value_of, worth_to, is_tested, is_date_error}
use Rattle.limits.specs.Limits.{is_included, exceeds, exceeds_lower, exceeds_upper, packed}
use Rattle.limits.specs.Limits.{accumulators_lower, accumulators_upper, counters_lower, counters_upper, dating_flags}
use Rattle.checks.specs.Checks.{maximum_exceeded, cashback_found, history_flags, decision_bits}
use Rattle.state.specs.declared.History.{History}
use Rattle.apart.specs.Off.{IsOff}
use Rattle.apart.proofs.Values.{Beside}

module _ (rules : Rules) (place : Place) (x : Meter) (off : IsOff rules x place) where
  -- what is active is another meter
  another : (y : Meter) → (rule_of rules place y).active ≡ true → y ≡ x → ⊥
  another y active e =
      let f : false ≡ true = sym off.inactive ∙ ap (λ (m : Meter). (rule_of rules place m).active) (sym e) ∙ active in
      let z : ◌≡◌ {A = ℕ} 0 1 = cc in
      omega arith

  module _ (v w : Values) (b : Beside x v w) (purchase : Purchase) where
    abbrev Agree : (y : Meter) (limit : ℕ) → Type 0
    Agree y limit =
        let rule = rule_of rules place y in
        let include = is_included rules purchase y rule in
        (is_tested purchase y && exceeds rule include (worth_to rules purchase y) limit (value_of v y))
        ≡ (is_tested purchase y && exceeds rule include (worth_to rules purchase y) limit (value_of w y))

    agree : (y : Meter) (limit : ℕ) → Agree y limit
    agree y limit = by (rule_of rules place y).active refl where
      by : (t : Bool) → (rule_of rules place y).active ≡ t → Agree y limit
      by true e =
          let rule = rule_of rules place y in
          ap (λ (n : ℕ). is_tested purchase y && exceeds rule (is_included rules purchase y rule) (worth_to rules purchase y) limit n)
          (b.others y (another y e))
      by false e = rw e

    lower-same : ◌≡◌ {A = Meter → Bool} (exceeds_lower rules place v purchase) (exceeds_lower rules place w purchase)
    lower-same = fun_ext (λ y. agree y (rule_of rules place y).lower)

    upper-same : ◌≡◌ {A = Meter → Bool} (exceeds_upper rules place v purchase) (exceeds_upper rules place w purchase)
    upper-same = fun_ext (λ y. agree y (rule_of rules place y).upper)

    pub bits-same : (history : History) → decision_bits rules place v purchase history ≡ decision_bits rules place w purchase history
    unfolding decision_bits accumulators_lower accumulators_upper counters_lower counters_upper dating_flags
    bits-same history =
        ap₂ (λ (lower upper : Meter → Bool). packed (history_flags history ++ maximum_exceeded rules place purchase ∷ four (λ i. lower (accumulator i))
        ++ four (λ i. upper (accumulator i)) ++ four (λ i. lower (counter i)) ++ four (λ i. upper (counter i))
        ++ upper (cyclic 0) ∷ upper (cyclic 1) ∷ is_date_error purchase.timing ∷ []
        ++ cashback_found rules place purchase ∷ [])) lower-same upper-same
