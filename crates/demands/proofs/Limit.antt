-- Demand 3, the upper limit: on a CPA card no offline approval under a guarding profile leaves the value above that profile's upper limit.
-- Assumes nothing.
use mathlib.Core.Path.{◌≡◌, refl, sym, ap, ◌∙◌, subst}
use mathlib.Core.Bool.{Bool, true, false, cond, not, ◌&&◌, ◌||◌}
use mathlib.Core.List.{List, [], ◌∷◌}
use Prim.Native.Nat.{ℕ, ◌+◌, ◌^◌, ◌≤◌}
use native.Mathlib.Omega.{arith}
use borrow.Author.Tests.{ltb-true, eqb-true}
use lib.Dec.{ltb, eqb}
use Rattle.calendar.specs.declared.Date.{Date}
use Rattle.money.specs.declared.AccumulatorAmount.{AccumulatorAmount}
use Rattle.money.specs.declared.Converted.{Converted}
use Rattle.money.specs.declared.Converted.TheVariants.{Amount, Over, NoEntry}
use Rattle.money.specs.Money.{max}
use Rattle.iad.specs.declared.Cvr.{Cvr}
use Rattle.rules.specs.declared.Place.{Place}
use Rattle.rules.specs.declared.Values.{Values}
use Rattle.rules.specs.declared.Masks.{Masks}
use Rattle.rules.specs.Rules.{Rules, profile_at}
use Rattle.setup.specs.Setup.{profile_in}
use Rattle.command.specs.declared.First.{First}
use Rattle.command.specs.declared.Second.{Second}
use Rattle.card.specs.Message.{Message, StartCommand, FirstCommand, SecondCommand, ScriptCommand}
use Rattle.purchase.specs.declared.Timing.{Timing}
use Rattle.purchase.specs.declared.Purchase.{Purchase}
use Rattle.purchase.specs.Meter.{Meter, accumulator, counter, cyclic, IsMeter, MeterRule, rule_of, value_of, worth_to, cap_of as cap}
use Rattle.purchase.specs.Meter.{takes_up as card_takes_up}
use Rattle.meters.specs.declared.Change.TheVariants.{Approve}
use Rattle.meters.specs.Meters.{add, moved, addition, offline, applied, entered as entries_of}
use Rattle.meters.proofs.Ledger.{applied-moves}
use Rattle.marks.specs.declared.Scripts.{Scripts}
use Rattle.state.specs.declared.History.{History}
use Rattle.limits.specs.Limits.{bit, exceeds_upper}
use Rattle.checks.specs.Checks.{decision_bits, meets_mask, upper_bit as upper_flag}
use Rattle.checks.proofs.Bits.{bit_of, meets_at, house_order}
use Rattle.limits.proofs.Exceeds.{active-within}
use Rattle.state.specs.declared.Answer.TheVariants.{Refused}
use Rattle.cryptogram.specs.declared.Issuer.{Issuer}
use Rattle.state.specs.declared.Kind.{Kind}
use Rattle.state.specs.declared.Kind.TheVariants.{Aac, Tc, Arqc}
use Rattle.state.specs.declared.Pending.{Pending}
use Rattle.state.specs.declared.State.{State}
use Rattle.state.specs.declared.Outcome.{Outcome}
use Rattle.cycles.specs.Cycles.{timing_of, dated}
use Rattle.first.specs.First.{decision, purchase_of, first_kind, first_performed, first_answered, settled, asked, concluded}
use Rattle.state.specs.State.{unable_in}
use Rattle.closing.specs.Closing.{closed}
use Rattle.second.specs.Second.{is_unable, unable_bits, unable_performed, second_performed}
use Rattle.card.specs.Card.{is_dated}
use Rattle.demands.specs.Setup.{Setup, number_at, IsCpa, AcceptedSetup}
use Rattle.demands.specs.Conversation.{Exchange, Sitting, after, told, rules_by, sat, next, Spoken}
use Rattle.demands.specs.Audit.{is_on, is_active, is_included, upper_of, approves, takes_part, named, bought, dealing, in_force, place_by}
use Rattle.demands.specs.Guards.{upper_bit, Guards}
use Rattle.demands.proofs.Refusal.{never}
use Rattle.demands.proofs.Step.{Did, refused_it, started_it, took_first, took_second, took_script}
use Rattle.demands.proofs.Run.{Ruled, always_ruled, did_by, family_stays}
use Rattle.demands.proofs.Bytes.{Stands, masks-are, rule_read, rule-read}
use Rattle.demands.proofs.Deals.{Remembers, Deals, brought_as, always_deals}
use Rattle.demands.proofs.Moves.{takes_part_lem, takes_up_lem, takes_all}
use Rattle.demands.proofs.Total.{Agrees, Holding, always}

-- ---- what an approval adds stays within a limit that the value, with the amount, is within

module _ (cap limit : ℕ) where
  added : (value n : ℕ) → value + n ≤ limit → moved cap value (add n ∷ []) ≤ limit
  added value n h = by (ltb cap (value + n)) refl where
    by : (b : Bool) → ltb cap (value + n) ≡ b → cond b cap (value + n) ≤ limit
    by true e = let l = ltb-true cap (value + n) e in omega arith
    by false e = h

  approval-within : (value : ℕ) (on : Bool) (worth : Converted) → value ≤ limit
      → ((more : AccumulatorAmount) → worth ≡ Amount more → value + more.0 ≤ limit) → (worth ≡ Over → ⊥)
      → moved cap value (cond on (addition worth) []) ≤ limit
  approval-within value true (Amount more) h k o = added value more.0 (k more refl)
  approval-within value true Over h k o = absurd (o refl)
  approval-within value true NoEntry h k o = h
  approval-within value false worth h k o = h

same_bit : (meter : Meter) → upper_bit meter ≡ upper_flag meter
same_bit (accumulator i) = refl
same_bit (counter i) = refl
same_bit (cyclic i) = refl

-- a flag whose bit is in a mask that isn't met is not set
unmet : (k adr mask : ℕ) (flag : Bool) → bit_of k adr ≡ bit flag → is_on mask (2 ^ k) ≡ true → meets_mask adr mask ≡ false → flag ≡ false
unmet k adr mask false e m q = refl
unmet k adr mask true e m q = absurd (never (sym q ∙ meets_at k adr mask e (eqb-true _ _ m)))

module _ (setup : Setup) (place : Place) (at : ℕ) (stands : Stands setup place at) (values : Values) (history : History) (purchase : Purchase)
    (cpa : IsCpa setup) where
  abbrev rules : Rules
  rules = rules_by setup

  abbrev adr : ℕ
  adr = decision_bits rules place values purchase history

  module _ (meter : Meter) (l : IsMeter meter) (active : is_active setup at meter ≡ true) (included : is_included setup at meter ≡ true) where
    abbrev rule : MeterRule
    rule = rule_of rules place meter

    is : rule ≡ rule_read setup at meter
    is = rule-read setup place at stands meter l

    unmet_within : takes_part purchase meter ≡ true → (mask : ℕ) → is_on mask (2 ^ upper_flag meter) ≡ true → meets_mask adr mask ≡ false
        → moved (cap meter) (value_of values meter) (entries_of rules place (Approve purchase) meter) ≤ upper_of setup at meter
    unmet_within takes mask on q =
        let up : card_takes_up rules purchase meter ≡ true = takes_up_lem setup purchase meter l ∙ takes_all setup purchase cpa meter ∙ takes in
        let active' : rule.active ≡ true = ap (λ (r : MeterRule). r.active) is ∙ active in
        let included' : (card_takes_up rules purchase meter && rule.include) ≡ true = rw up (ap (λ (r : MeterRule). r.include) is ∙ included) in
        let flag = (house_order rules place values purchase history).upper meter l in
        let unset = unmet (upper_flag meter) adr mask (exceeds_upper rules place values purchase meter) flag on q in
        let w = active-within rule _ (worth_to rules purchase meter) rule.upper (value_of values meter) active'
        (rw (takes_part_lem purchase meter ∙ takes) at unset) in
        subst (λ upper. moved (cap meter) (value_of values meter) (entries_of rules place (Approve purchase) meter) ≤ upper)
        (ap (λ (r : MeterRule). r.upper) is)
        (approval-within (cap meter) rule.upper (value_of values meter) (card_takes_up rules purchase meter && (rule.active && rule.allow))
        (worth_to rules purchase meter) w.alone (λ more. w.together more included') (w.not_over included'))

  -- an approval while a mask that holds the upper limit's bit isn't met
  pub approved-within : (meter : Meter) → IsMeter meter → is_active setup at meter ≡ true → is_included setup at meter ≡ true
      → takes_part purchase meter ≡ true → (mask : ℕ) → is_on mask (2 ^ upper_bit meter) ≡ true → meets_mask adr mask ≡ false
      → value_of (applied rules place values (Approve purchase)) meter ≤ upper_of setup at meter
  approved-within meter l active included takes mask on q =
      subst (λ value. value ≤ upper_of setup at meter) (sym (applied-moves rules place values (Approve purchase) meter l))
      (unmet_within meter l active included takes mask (subst (λ k. is_on mask (2 ^ k) ≡ true) (same_bit meter) on) q)

both_false : (b : Bool) → (b && false) ≡ true → false ≡ true
both_false true e = e
both_false false e = e

-- a TC at First says that Decline isn't met
tc_unmet : (requested adr : ℕ) (masks : Masks) (terminal : ℕ) → Tc ≡ decision requested adr masks terminal → meets_mask adr masks.decline ≡ false
unfolding decision
tc_unmet requested bits masks terminal e = by (eqb requested 0) (meets_mask bits masks.decline) _ e where
  by : (a b : Bool) (rest : Kind) → Tc ≡ cond a Aac (cond b Aac rest) → b ≡ false
  by true b rest e = cc
  by false true rest e = cc
  by false false rest e = refl

module _ (setup : Setup) (sitting : Sitting) (ruled : Ruled setup sitting) (deals : Deals setup sitting) (holding : Holding setup sitting)
    (cpa : IsCpa (in_force setup sitting.log)) (meter : Meter) (l : IsMeter meter)
    (guards : Guards (in_force setup sitting.log) (place_by setup sitting.log) meter) where
  abbrev log : List Exchange
  log = sitting.log

  abbrev now : Setup
  now = in_force setup log

  abbrev card_rules : Rules
  card_rules = rules_by now

  abbrev state : State
  state = sitting.state

  abbrev at : ℕ
  at = place_by setup log

  -- if an answer approves a purchase in which the meter takes part, the value is within
  abbrev Within : Message → Outcome → Type 0
  Within command outcome =
      approves command outcome.answer ≡ true → takes_part (bought setup (after sitting command outcome).log) meter ≡ true
      → value_of outcome.state.values meter ≤ upper_of now at meter

  -- the card's purchase is the auditor's
  takes_as : {purchase said : Purchase} → purchase ≡ said → takes_part said meter ≡ true → takes_part purchase meter ≡ true
  takes_as is takes = ap (λ p. takes_part p meter) is ∙ takes

  module _ (first : First) (small : first.amount.0 ≤ max) (day : is_dated first.when ≡ true) where
    abbrev begun : State
    begun = dated card_rules state first.when

    abbrev timing : Timing
    timing = timing_of state.last first.when

    concluded-within : (place : Place) → Stands now place at → (limits : ℕ) (cvr : Cvr) (kind : Kind)
        → kind ≡ first_kind card_rules begun place first timing
        → Within (FirstCommand first) (concluded card_rules begun place (purchase_of first timing) limits cvr kind)
    unfolding settled asked concluded dealing profile_in
    concluded-within place stands limits cvr Tc is e takes =
        let mask : (profile_at card_rules place).masks.decline ≡ number_at now (at + 5) 4 =
        ap (λ (m : Masks). m.decline) (masks-are now place at stands) in
        approved-within now place at stands begun.values begun.history (purchase_of first timing) cpa meter l guards.active guards.included
        (takes_as (brought_as setup sitting ruled deals first small day) takes)
        (profile_at card_rules place).masks.decline (rw mask guards.decline)
        (tc_unmet first.requested _ (profile_at card_rules place).masks first.terminal is)
    concluded-within place stands limits cvr Aac is e takes = absurd (never e)
    concluded-within place stands limits cvr Arqc is e takes = absurd (never e)

    first-within : (place : Place) → Stands now place at → Within (FirstCommand first) (first_performed card_rules state first place)
    unfolding first_performed first_answered
    first-within place stands = concluded-within place stands _ _ (first_kind card_rules begun place first timing) refl

  module _ (second : Second) (pending : Pending) (stands : Stands now pending.place at) (purchase-is : pending.purchase ≡ bought setup log) where
    unable-within : (b : Bool)
        → not (eqb second.requested 0 || meets_mask (unable_bits card_rules state pending) (profile_at card_rules pending.place).masks.default) ≡ b
        → (last : Date) (history : History) (scripts : Scripts) (issuer : Issuer)
        → Within (SecondCommand second)
        (closed card_rules state.atc pending b (applied card_rules pending.place state.values (offline b pending.purchase)) last history scripts issuer)
    unfolding closed dealing profile_in
    unable-within false q last history scripts issuer e takes = absurd (never (both_false (is_unable second.code) e))
    unable-within true q last history scripts issuer e takes =
        let place = pending.place in
        let mask : (profile_at card_rules place).masks.default ≡ number_at now (at + 9) 4 =
        ap (λ (m : Masks). m.default) (masks-are now place at stands) in
        approved-within now place at stands state.values (unable_in pending.history) pending.purchase cpa meter l guards.active guards.included
        (takes_as purchase-is takes)
        (profile_at card_rules place).masks.default (rw mask guards.default) (neither (eqb second.requested 0) _ q)
      where
        neither : (a b : Bool) → not (a || b) ≡ true → b ≡ false
        neither true b e = absurd (never e)
        neither false true e = absurd (never e)
        neither false false e = refl

    second-within : Within (SecondCommand second) (second_performed card_rules state second pending)
    unfolding second_performed unable_performed
    second-within = by (is_unable second.code) refl _ where
      by : (u : Bool) → is_unable second.code ≡ u → (rest : Outcome)
          → Within (SecondCommand second) (cond u (unable_performed card_rules state second.requested pending) rest)
      by true u rest e = unable-within _ refl _ _ _ _ e
      by false u rest e = absurd (never (rw u at e))

  did_within : {command : Message} {outcome : Outcome} → Did card_rules state command outcome → Within command outcome
  did_within {command} (refused_it r wrote) = λ e. absurd (never (not_refused command e)) where
    not_refused : (command : Message) → approves command (Refused r) ≡ true → false ≡ true
    not_refused (StartCommand start) e = e
    not_refused (FirstCommand first) e = e
    not_refused (SecondCommand second) e = both_false (is_unable second.code) e
    not_refused (ScriptCommand result template) e = e
  did_within (started_it start place holds) = λ e. absurd (never e)
  did_within (took_first first place is type small day) = first-within first small day place (subst (Agrees now (named log)) is holding.agrees)
  did_within (took_second second pending is type issuer) =
      second-within second pending (subst (Agrees now (named log)) is holding.agrees) (subst (Remembers (bought setup log)) is deals.remembers).0
  did_within (took_script result template sound wrote) = λ e. absurd (never e)

-- DEMAND 3, THE UPPER LIMIT of a CPA card, which is the one in force at the approval: of a cyclic accumulator, for approvals without a date error
pub limit : (setup : Setup) → AcceptedSetup setup → IsCpa setup → (commands : List Message) → Spoken commands → (command : Message) (meter : Meter) → IsMeter meter
    → Guards (in_force setup (sat setup commands).log) (place_by setup (sat setup commands).log) meter
    → approves command (next setup commands command).answer ≡ true
    → takes_part (bought setup (told (sat setup commands) command).log) meter ≡ true
    → value_of (next setup commands command).state.values meter
    ≤ upper_of (in_force setup (sat setup commands).log) (place_by setup (sat setup commands).log) meter
limit setup good cpa commands spoken command meter l guards =
    let sitting = sat setup commands in
    let ruled = always_ruled setup good commands spoken in
    did_within setup sitting ruled (always_deals setup good commands spoken) (always setup good commands spoken) (family_stays setup sitting.log ∙ cpa) meter l guards
    (did_by setup sitting ruled command)
