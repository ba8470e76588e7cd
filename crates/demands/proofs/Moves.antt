-- What approvals, declines and orders do to a meter is what the auditor enters, at most one entry each time.
-- Assumes nothing.
use mathlib.Core.Path.{◌≡◌, refl, ap, ap₂, ◌∙◌}
use mathlib.Core.Bool.{Bool, true, false, cond, not, ◌&&◌}
use mathlib.Core.List.{List, [], ◌∷◌, ◌++◌}
use Prim.Native.Nat.{ℕ, zero, suc, ◌+◌, ◌/◌, ◌%◌, ◌≤◌, ◌<◌}
use native.Mathlib.Nat.{div-one}
use native.Mathlib.Omega.{arith}
use lib.Dec.{eqb}
use Rattle.money.specs.Money.{max}
use Rattle.rules.specs.declared.Place.{Place}
use Rattle.rules.specs.declared.Values.{Values}
use Rattle.rules.specs.Rules.{Rules}
use Rattle.cpace.specs.declared.Cvm.{Cvm}
use Rattle.cpace.specs.declared.Cvm.TheVariants.{OnlinePin, Signature, NoCvm}
use Rattle.cpace.specs.Cpace.{closes}
use Rattle.purchase.specs.declared.Purchase.{Purchase}
use Rattle.purchase.specs.declared.Timing.{Timing}
use Rattle.purchase.specs.declared.Timing.TheVariants.{Undated, InOrder, DateError}
use Rattle.purchase.specs.Meter.{Meter, accumulator, counter, cyclic, IsMeter, MeterRule, rule_of, amount_at, count_at, cyclic_at, value_of, counter_cap}
use Rattle.purchase.specs.Meter.{is_in_order, is_open, is_tested, takes_up as card_takes_up, worth_to as card_worth}
use Rattle.meters.specs.declared.Change.{Change}
use Rattle.meters.specs.declared.Change.TheVariants.{Approve, Decline, SetToLimits, Clear}
use Rattle.meters.specs.Meters.{Entry, put, add, moved, addition, applied, entered as entries_of}
use Rattle.meters.proofs.Ledger.{applied-moves}
use Rattle.closing.specs.Closing.{ordered_change, ordered as ordered_values}
use Rattle.second.specs.Second.{update_byte}
use Rattle.demands.specs.Setup.{Setup, family_byte, IsCpa, AcceptedSetup}
use Rattle.demands.specs.Conversation.{rules_by}
use Rattle.demands.specs.Audit.{is_active, is_allowed, counts_declines, upper_of, cap_of, Conversion, comes_to, over, none, worth_to, adds, counted}
use Rattle.demands.specs.Audit.{is_on, is_timely, takes_part, cvm_bit, takes_up, declined, ordered}
use Rattle.demands.proofs.Owed.{Fair, nothing, putting as fair_put, adding, fair_or}
use Rattle.demands.proofs.Bytes.{Stands, rule_read, rule-read, control_is, worth-adds}

-- a meter takes part, and takes a purchase up, by the card and by the auditor
timely_is : (timing : Timing) → is_in_order timing ≡ is_timely timing
timely_is Undated = refl
timely_is InOrder = refl
timely_is (DateError date) = refl

pub takes_part_lem : (purchase : Purchase) (meter : Meter) → is_tested purchase meter ≡ takes_part purchase meter
takes_part_lem purchase (accumulator i) = refl
takes_part_lem purchase (counter i) = refl
takes_part_lem purchase (cyclic i) = timely_is purchase.timing

closes-is : (control : ℕ) (cvm : Cvm) → closes control cvm ≡ is_on control (cvm_bit cvm)
closes-is control OnlinePin = refl
closes-is control Signature = refl
closes-is control NoCvm = rw div-one

module _ (setup : Setup) (purchase : Purchase) where
  opens : (slot at : ℕ) → slot < 8 → 1 + slot ≡ at
      → is_open (rules_by setup) purchase slot ≡ not (is_on (family_byte setup at) (cvm_bit purchase.cvm))
  unfolding is_open
  opens slot at l e =
      ap (λ control. not (closes control purchase.cvm)) (control_is setup slot l ∙ ap (family_byte setup) e)
      ∙ ap not (closes-is (family_byte setup at) purchase.cvm)

  pub takes_up_lem : (meter : Meter) → IsMeter meter → card_takes_up (rules_by setup) purchase meter ≡ takes_up setup purchase meter
  takes_up_lem (accumulator i) l = opens i (1 + i) (omega arith) refl
  takes_up_lem (counter i) l = opens (4 + i) (5 + i) (omega arith) (omega arith)
  takes_up_lem (cyclic i) l = timely_is purchase.timing

  -- a CPA card's take up whatever they take part in
  never_closed : (cvm : Cvm) → not (is_on 0 (cvm_bit cvm)) ≡ true
  never_closed OnlinePin = refl
  never_closed Signature = refl
  never_closed NoCvm = refl

  pub takes_all : IsCpa setup → (meter : Meter) → takes_up setup purchase meter ≡ takes_part purchase meter
  takes_all cpa (accumulator i) = rw cpa (never_closed purchase.cvm)
  takes_all cpa (counter i) = rw cpa (never_closed purchase.cvm)
  takes_all cpa (cyclic i) = refl

-- what is put where a meter is active
abbrev pub where_active : Setup → ℕ → Meter → ℕ → List Entry
where_active setup at meter n = cond (is_active setup at meter) (put n ∷ []) []

module _ (setup : Setup) (good : AcceptedSetup setup) (place : Place) (at : ℕ) (stands : Stands setup place at) (values : Values) where
  abbrev rules : Rules
  rules = rules_by setup

  -- what a change enters moves each value
  change_moves : (change : Change) (meter : Meter) → IsMeter meter → (entries : List Entry) → entries_of rules place change meter ≡ entries
      → value_of (applied rules place values change) meter ≡ moved (cap_of meter) (value_of values meter) entries
  change_moves change (accumulator i) l entries e =
      applied-moves rules place values change (accumulator i) l ∙ ap (moved max (amount_at values i).0) e
  change_moves change (counter i) l entries e =
      applied-moves rules place values change (counter i) l ∙ ap (moved counter_cap (count_at values i)) e
  change_moves change (cyclic i) l entries e =
      applied-moves rules place values change (cyclic i) l ∙ ap (moved max (cyclic_at values i).0) e

  module _ (meter : Meter) (l : IsMeter meter) where
    abbrev read : MeterRule
    read = rule_read setup at meter

    is : rule_of rules place meter ≡ read
    is = rule-read setup place at stands meter l

    -- what is put leaves nothing to add
    alone : (active : Bool) (n : ℕ) → (cond active (put n ∷ []) [] ++ []) ≡ cond active (put n ∷ []) []
    alone true n = refl
    alone false n = refl

    pub approved-moves : (purchase : Purchase) → purchase.amount.0 ≤ max
        → value_of (applied rules place values (Approve purchase)) meter ≡ moved (cap_of meter) (value_of values meter) (counted setup at purchase meter)
    approved-moves purchase small =
        change_moves (Approve purchase) meter l (counted setup at purchase meter)
        (ap (λ (rule : MeterRule). cond (card_takes_up rules purchase meter && (rule.active && rule.allow)) (addition (card_worth rules purchase meter)) []) is
        ∙ ap₂ (λ b entries. cond (b && (read.active && read.allow)) entries []) (takes_up_lem setup purchase meter l)
        (worth-adds setup good purchase small meter l))

    pub declined-moves : value_of (applied rules place values Decline) meter ≡ moved (cap_of meter) (value_of values meter) (declined setup at meter)
    declined-moves =
        change_moves Decline meter l (declined setup at meter)
        (ap (λ (rule : MeterRule). cond (rule.active && rule.allow && rule.declines) (add 1 ∷ []) []) is)

    pub limited_moves : value_of (applied rules place values SetToLimits) meter
        ≡ moved (cap_of meter) (value_of values meter) (where_active setup at meter (upper_of setup at meter))
    limited_moves =
        change_moves SetToLimits meter l (where_active setup at meter (upper_of setup at meter))
        (ap (λ (rule : MeterRule). cond rule.active (put rule.upper ∷ []) [] ++ []) is ∙ alone read.active read.upper)

    pub cleared_moves : value_of (applied rules place values Clear) meter ≡ moved (cap_of meter) (value_of values meter) (where_active setup at meter 0)
    cleared_moves =
        change_moves Clear meter l (where_active setup at meter 0)
        (ap (λ (rule : MeterRule). cond rule.active (put 0 ∷ []) [] ++ []) is ∙ alone read.active 0)

    pub ordered-moves : (purchase : Purchase) → purchase.amount.0 ≤ max → (csu : ℕ)
        → value_of (ordered_values rules place values purchase (update_byte csu)) meter
        ≡ moved (cap_of meter) (value_of values meter) (ordered setup at purchase csu meter)
    unfolding ordered_values
    ordered-moves purchase small csu =
        let two-bits : csu / 65536 % 256 % 4 ≡ csu / 65536 % 4 = omega arith in
        rw two-bits (by (csu / 65536 % 4) (omega arith))
      where
        by : (order : ℕ) → order < 4
            → value_of (cond (eqb order 0) values (applied rules place values (ordered_change order purchase))) meter
            ≡ moved (cap_of meter) (value_of values meter)
            (cond (eqb order 1) (where_active setup at meter (upper_of setup at meter)) (cond (eqb order 2) (where_active setup at meter 0)
            (cond (eqb order 3) (counted setup at purchase meter) [])))
        by zero h = refl
        by (suc zero) h = limited_moves
        by (suc (suc zero)) h = cleared_moves
        by (suc (suc (suc zero))) h = approved-moves purchase small
        by (suc (suc (suc (suc order)))) h = absurd (omega arith)

-- ---- at most one entry each time, and nothing put above the cap

module _ (setup : Setup) (profile : ℕ) (purchase : Purchase) (cap : ℕ) where
  adds_fair : (worth : Conversion) → Fair cap (adds worth)
  adds_fair (comes_to n) = adding
  adds_fair over = adding
  adds_fair none = nothing

  pub counted_fair : (meter : Meter) → Fair cap (counted setup profile purchase meter)
  counted_fair meter =
      fair_or (takes_up setup purchase meter && (is_active setup profile meter && is_allowed setup profile meter)) (adds_fair (worth_to setup purchase meter))
      nothing

  pub declined_fair : (meter : Meter) → Fair cap (declined setup profile meter)
  declined_fair meter = fair_or (is_active setup profile meter && is_allowed setup profile meter && counts_declines setup profile meter) adding nothing

  pub ordered_fair : (meter : Meter) (csu : ℕ) → upper_of setup profile meter ≤ cap → Fair cap (ordered setup profile purchase csu meter)
  ordered_fair meter csu h =
      fair_or (eqb (csu / 65536 % 4) 1) (fair_or (is_active setup profile meter) (fair_put h) nothing)
      (fair_or (eqb (csu / 65536 % 4) 2) (fair_or (is_active setup profile meter) (fair_put (omega arith)) nothing)
      (fair_or (eqb (csu / 65536 % 4) 3) (counted_fair meter) nothing))
