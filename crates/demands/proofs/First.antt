-- What First answers, over every list of commands: document 01's table, by flags read off the conversation and the set-up's bytes.
-- Assumes nothing.
use mathlib.Core.Path.{◌≡◌, ap, ap₂, ◌∙◌, subst, subst₃}
use mathlib.Core.Bool.{Bool, true}
use mathlib.Core.List.{List}
use Prim.Native.Nat.{ℕ, ◌≤◌}
use native.Mathlib.Omega.{arith}
use Rattle.money.specs.Money.{max}
use Rattle.iad.specs.declared.Cvr.{Cvr}
use Rattle.iad.specs.declared.Iad.{Iad}
use Rattle.rules.specs.declared.Place.{Place}
use Rattle.rules.specs.declared.Masks.{Masks}
use Rattle.rules.specs.Rules.{Rules, profile_at}
use Rattle.setup.specs.Setup.{profile_in}
use Rattle.command.specs.declared.First.{First}
use Rattle.card.specs.Message.{Message, StartCommand, FirstCommand, SecondCommand, ScriptCommand}
use Rattle.purchase.specs.declared.Timing.{Timing}
use Rattle.purchase.specs.declared.Purchase.{Purchase}
use Rattle.state.specs.declared.History.{History}
use Rattle.checks.specs.Checks.{meets_mask}
use Rattle.state.specs.declared.Answer.TheVariants.{Given}
use Rattle.state.specs.declared.Kind.{Kind}
use Rattle.state.specs.declared.Kind.TheVariants.{Aac, Tc, Arqc}
use Rattle.state.specs.declared.State.{State}
use Rattle.state.specs.declared.Outcome.{Outcome}
use Rattle.cycles.specs.Cycles.{timing_of, dated}
use Rattle.first.specs.First.{purchase_of, first_bits, first_kind, first_performed, first_answered, settled, asked, concluded}
use Rattle.state.specs.Ruling.{refused}
use Rattle.card.specs.Card.{is_dated}
use Rattle.refusal.specs.declared.Refusal.{Refusal}
use Rattle.demands.specs.Setup.{Setup, AcceptedSetup}
use Rattle.purchase.specs.Meter.{Meter, accumulator, counter, cyclic, IsMeter, value_of}
use Rattle.demands.specs.Conversation.{Exchange, Sitting, rules_by, sat, next, Spoken}
use Rattle.demands.specs.Audit.{named, brought, last_date, in_force, place_by, tested}
use Rattle.demands.specs.Past.{past}
use Rattle.demands.specs.Decision.{flags, meets, is_offline_only, Decides, FirstAnswers}
use Rattle.demands.proofs.Step.{Did, refused_it, started_it, took_first, took_second, took_script}
use Rattle.demands.proofs.Run.{Ruled, always_ruled, did_by}
use Rattle.demands.proofs.Bytes.{Stands, masks-are}
use Rattle.demands.proofs.Dated.{same-history}
use Rattle.demands.proofs.Deals.{Deals, brought_as, always_deals}
use Rattle.demands.proofs.Total.{Agrees, Holding, begun-values, always}
use Rattle.demands.proofs.Past.{history}
use Rattle.demands.proofs.Decision.{met-is, decided}

-- flags look at the ten values alone
pub flags-same : (setup : Setup) (profile : ℕ) (purchase : Purchase) (f g : Meter → ℕ) (history : History)
    → ((meter : Meter) → IsMeter meter → f meter ≡ g meter)
    → flags setup profile purchase f history ≡ flags setup profile purchase g history
unfolding flags
flags-same setup profile purchase f g history h =
    simp (
      h (accumulator 0) (omega arith),
      h (accumulator 1) (omega arith),
      h (accumulator 2) (omega arith),
      h (accumulator 3) (omega arith),
      h (counter 0) (omega arith),
      h (counter 1) (omega arith),
      h (counter 2) (omega arith),
      h (counter 3) (omega arith),
      h (cyclic 0) (omega arith),
      h (cyclic 1) (omega arith),
    )

-- a concluded First answers with the kind that was decided
pub concluded-kind : (rules : Rules) (state : State) (place : Place) (purchase : Purchase) (limits : ℕ) (cvr : Cvr)
    (decided kind : Kind) (atc : ℕ) (iad : Iad)
    → (concluded rules state place purchase limits cvr decided).answer ≡ Given kind atc iad → decided ≡ kind
unfolding settled asked concluded
concluded-kind rules state place purchase limits cvr Aac kind atc iad e = cc
concluded-kind rules state place purchase limits cvr Tc kind atc iad e = cc
concluded-kind rules state place purchase limits cvr Arqc kind atc iad e = cc

module _ (setup : Setup) (sitting : Sitting) (ruled : Ruled setup sitting) (deals : Deals setup sitting) (holding : Holding setup sitting)
    (remembered : sitting.state.history ≡ past setup sitting.log) where
  abbrev log : List Exchange
  log = sitting.log

  abbrev now : Setup
  now = in_force setup log

  abbrev rules : Rules
  rules = rules_by now

  abbrev at : ℕ
  at = place_by setup log

  abbrev by_the_log : First → List Bool
  by_the_log first = flags now at (brought (last_date setup log) first) (tested setup log first) (past setup log)

  module _ (first : First) (place : Place) (stands : Stands now place at) (type : first.requested ≤ 2) (small : first.amount.0 ≤ max)
      (day : is_dated first.when ≡ true) where
    -- the card when the tests come
    abbrev begun : State
    begun = dated rules sitting.state first.when

    abbrev timing : Timing
    timing = timing_of sitting.state.last first.when

    same_flags : flags now at (purchase_of first timing) (value_of begun.values) begun.history ≡ by_the_log first
    same_flags =
        flags-same now at (purchase_of first timing) (value_of begun.values) (tested setup log first) begun.history
        (begun-values setup sitting ruled deals holding first small day)
        ∙ ap₂ (λ purchase history. flags now at purchase (tested setup log first) history) (brought_as setup sitting ruled deals first small day)
        (same-history rules sitting.state first.when ∙ remembered)

    pub kind-answers : FirstAnswers now at first (by_the_log first) (first_kind rules begun place first timing)
    unfolding profile_in
    kind-answers =
        let masks = (profile_at rules place).masks in
        let adr = first_bits rules begun place first timing in
        let fs = by_the_log first in
        let met : (mask : ℕ) → meets_mask adr mask ≡ meets fs mask =
        λ mask. met-is now ruled.good place at stands begun.values (purchase_of first timing) small begun.history mask
        ∙ ap (λ f. meets f mask) same_flags in
        let these : (mask : Masks → ℕ) → meets_mask adr (mask masks) ≡ meets fs (mask (profile_in now.bytes at).masks) =
        λ mask. met (mask masks) ∙ ap (λ m. meets fs (mask m)) (masks-are now place at stands) in
        subst₃ (λ o d f. Decides first.requested o d f (is_offline_only first.terminal) (first_kind rules begun place first timing))
        (these (λ m. m.online)) (these (λ m. m.decline)) (these (λ m. m.default))
        (decided adr masks first.terminal first.requested type)

  abbrev Answers : Message → Outcome → Type 0
  Answers (StartCommand start) outcome = Unit
  Answers (FirstCommand first) outcome =
      (kind : Kind) (atc : ℕ) (iad : Iad) → outcome.answer ≡ Given kind atc iad → FirstAnswers now at first (by_the_log first) kind
  Answers (SecondCommand second) outcome = Unit
  Answers (ScriptCommand result template) outcome = Unit

  refused-answers : (command : Message) (r : Refusal) → Answers command (refused sitting.state r)
  refused-answers (StartCommand start) r = tt
  refused-answers (FirstCommand first) r = λ kind atc iad e. let z : ◌≡◌ {A = ℕ} 0 1 = cc in absurd (omega arith)
  refused-answers (SecondCommand second) r = tt
  refused-answers (ScriptCommand result template) r = tt

  did_answers : {command : Message} {outcome : Outcome} → Did rules sitting.state command outcome → Answers command outcome
  unfolding first_performed first_answered
  did_answers {command} (refused_it r wrote) = refused-answers command r
  did_answers (started_it start place holds) = tt
  did_answers (took_first first place is type small day) =
      λ kind atc iad e.
      subst (FirstAnswers now at first (by_the_log first)) (concluded-kind rules _ place _ _ _ _ kind atc iad e)
      (kind-answers first place (subst (Agrees now (named log)) is holding.agrees) type small day)
  did_answers (took_second second pending is type issuer) = tt
  did_answers (took_script result template sound wrote) = tt

-- WHAT FIRST ANSWERS
pub first-answers : (setup : Setup) → AcceptedSetup setup → (commands : List Message) → Spoken commands → (first : First) (kind : Kind) (atc : ℕ) (iad : Iad)
    → (next setup commands (FirstCommand first)).answer ≡ Given kind atc iad
    → FirstAnswers (in_force setup (sat setup commands).log) (place_by setup (sat setup commands).log) first
    (flags (in_force setup (sat setup commands).log) (place_by setup (sat setup commands).log) (brought (last_date setup (sat setup commands).log) first)
    (tested setup (sat setup commands).log first) (past setup (sat setup commands).log)) kind
first-answers setup good commands spoken first =
    let sitting = sat setup commands in
    let ruled = always_ruled setup good commands spoken in
    did_answers setup sitting ruled (always_deals setup good commands spoken) (always setup good commands spoken) (history setup good commands spoken)
    (did_by setup sitting ruled (FirstCommand first))
