-- A command that is taken is answered in its kind, and leaves due what the conversation says. Assumes nothing.
use mathlib.Core.Path.{◌≡◌, refl, sym, ap, ◌∙◌}
use mathlib.Core.Bool.{Bool, true, false, cond}
use mathlib.Core.List.{List}
use Prim.Native.Nat.{ℕ}
use lib.Dec.{eqb}
use Rattle.refusal.specs.declared.Refusal.{Refusal}
use Rattle.calendar.specs.declared.Date.{Date}
use Rattle.iad.specs.declared.Cvr.{Cvr}
use Rattle.state.specs.declared.History.{History}
use Rattle.rules.specs.declared.Place.{Place}
use Rattle.rules.specs.declared.Values.{Values}
use Rattle.rules.specs.Rules.{Rules}
use Rattle.purchase.specs.declared.Purchase.{Purchase}
use Rattle.cryptogram.specs.declared.Issuer.{Issuer}
use Rattle.command.specs.declared.First.{First}
use Rattle.command.specs.declared.Second.{Second}
use Rattle.card.specs.Message.{Message, StartCommand, FirstCommand, SecondCommand, ScriptCommand}
use Rattle.state.specs.declared.Answer.{Answer}
use Rattle.state.specs.declared.Answer.TheVariants.{Refused, Started, Given, Done}
use Rattle.state.specs.declared.Kind.{Kind}
use Rattle.state.specs.declared.Kind.TheVariants.{Aac, Tc, Arqc}
use Rattle.state.specs.declared.Pending.{Pending}
use Rattle.state.specs.declared.Phase.TheVariants.{Idle}
use Rattle.state.specs.declared.State.{State}
use Rattle.state.specs.declared.Outcome.{Outcome}
use Rattle.cycles.specs.Cycles.{timing_of, dated}
use Rattle.first.specs.First.{first_performed, first_answered, first_kind, settled, asked, concluded}
use Rattle.marks.specs.declared.Scripts.{Scripts}
use Rattle.closing.specs.Closing.{closed}
use Rattle.second.specs.Second.{second_performed, is_unable, unable_performed, verified_performed, failed_performed, absent_performed}
use Rattle.scripting.specs.Scripting.{script_performed}
use Rattle.fresh.specs.Fresh.{fresh_state}
use Rattle.demands.specs.Setup.{Setup}
use Rattle.demands.specs.Conversation.{Sitting, told, sat_by, is_accepted}
use Rattle.demands.specs.Due.{Due, nothing, due_by, due, due_in, InKind}
use Rattle.demands.proofs.Step.{Did, refused_it, started_it, took_first, took_second, took_script, did}
use Rattle.demands.proofs.Run.{run_keeps}

pub accepted_in_kind : (command : Message) (answer : Answer) → InKind command answer → is_accepted answer ≡ true
accepted_in_kind (StartCommand start) (Started atc visits) k = refl
accepted_in_kind (FirstCommand first) (Given kind atc iad) k = refl
accepted_in_kind (SecondCommand second) (Given kind atc iad) k = refl
accepted_in_kind (ScriptCommand result template) Done k = refl
accepted_in_kind (StartCommand start) (Refused refusal) k = absurd k
accepted_in_kind (StartCommand start) (Given kind atc iad) k = absurd k
accepted_in_kind (FirstCommand first) (Refused refusal) k = absurd k
accepted_in_kind (FirstCommand first) (Started atc visits) k = absurd k
accepted_in_kind (SecondCommand second) (Refused refusal) k = absurd k
accepted_in_kind (SecondCommand second) (Started atc visits) k = absurd k
accepted_in_kind (StartCommand start) Done k = absurd k
accepted_in_kind (FirstCommand first) Done k = absurd k
accepted_in_kind (SecondCommand second) Done k = absurd k
accepted_in_kind (ScriptCommand result template) (Refused refusal) k = absurd k
accepted_in_kind (ScriptCommand result template) (Started atc visits) k = absurd k
accepted_in_kind (ScriptCommand result template) (Given kind atc iad) k = absurd k

-- First: what it gives, and what is due then, whatever was before
pub record Concludes (first : First) (outcome : Outcome) : Type 0 where
  pub in_kind : InKind (FirstCommand first) outcome.answer
  pub leaves : (before : Due) → due_in outcome.state.phase ≡ due_by (FirstCommand first) outcome.answer before

-- Second: a TC or an AAC, and the transaction is closed
pub record Closes (second : Second) (outcome : Outcome) : Type 0 where
  pub in_kind : InKind (SecondCommand second) outcome.answer
  pub idle : outcome.state.phase ≡ Idle

module _ (rules : Rules) (state : State) where
  concluded-ends : (state : State) (first : First) (place : Place) (purchase : Purchase) (limits : ℕ) (cvr : Cvr) (kind : Kind)
      → Concludes first (concluded rules state place purchase limits cvr kind)
  unfolding settled asked concluded
  concluded-ends state first place purchase limits cvr Tc = record { in_kind = tt; leaves = λ before. refl }
  concluded-ends state first place purchase limits cvr Aac = record { in_kind = tt; leaves = λ before. refl }
  concluded-ends state first place purchase limits cvr Arqc = record { in_kind = tt; leaves = λ before. refl }

  pub first_concludes : (first : First) (place : Place) → Concludes first (first_performed rules state first place)
  unfolding first_performed first_answered
  first_concludes first place =
      let begun = dated rules state first.when in
      concluded-ends begun first place _ _ _ (first_kind rules begun place first (timing_of state.last first.when))

  closed-ends : (second : Second) (pending : Pending) (approves : Bool) (values : Values) (last : Date) (history : History) (scripts : Scripts)
      (issuer : Issuer)
      → Closes second (closed rules state.atc pending approves values last history scripts issuer)
  unfolding closed
  closed-ends second pending true values last history scripts issuer = record { in_kind = tt; idle = refl }
  closed-ends second pending false values last history scripts issuer = record { in_kind = tt; idle = refl }

  chosen : (b : Bool) {second : Second} {x y : Outcome} → Closes second x → Closes second y → Closes second (cond b x y)
  chosen true p q = p
  chosen false p q = q

  pub second-closes : (second : Second) (pending : Pending) → Closes second (second_performed rules state second pending)
  unfolding second_performed unable_performed verified_performed failed_performed absent_performed
  second-closes second pending =
      let closes = closed-ends second pending in
      chosen (is_unable second.code)
      (closes _ _ _ _ _ _)
      (chosen (eqb second.issuer 1) (closes _ _ _ _ _ _) (chosen (eqb second.issuer 2) (closes _ _ _ _ _ _) (closes _ _ _ _ _ _)))

  refused_leaves : (command : Message) (refusal : Refusal) (before : Due) → before ≡ due_by command (Refused refusal) before
  refused_leaves (StartCommand start) refusal before = refl
  refused_leaves (FirstCommand first) refusal before = refl
  refused_leaves (SecondCommand second) refusal before = refl
  refused_leaves (ScriptCommand result template) refusal before = refl

  did_leaves : {command : Message} {outcome : Outcome} → Did rules state command outcome
      → due_in outcome.state.phase ≡ due_by command outcome.answer (due_in state.phase)
  unfolding script_performed
  did_leaves {command} (refused_it refusal wrote) = refused_leaves command refusal (due_in state.phase)
  did_leaves (started_it start place holds) = refl
  did_leaves (took_first first place is type small day) = (first_concludes first place).leaves (due_in state.phase)
  did_leaves (took_second second pending is type issuer) =
      let closes = second-closes second pending in
      let outcome = second_performed rules state second pending in
      ap due_in closes.idle
      ∙ sym (ap (λ b. cond b nothing (due_in state.phase)) (accepted_in_kind (SecondCommand second) outcome.answer closes.in_kind))
  did_leaves (took_script result template sound wrote) = refl

-- ---- over a list of commands

abbrev AsSaid : Sitting → Type 0
AsSaid sitting = due_in sitting.state.phase ≡ due sitting.log

told-due : (sitting : Sitting) → AsSaid sitting → (command : Message) → AsSaid (told sitting command)
unfolding due
told-due sitting h command = did_leaves sitting.rules sitting.state (did sitting.rules sitting.state command) ∙ ap (due_by command _) h

-- WHAT IS DUE, by the card's phase, is what the conversation says: by any rules
pub due-is : (rules : Rules) (setup : Setup) (commands : List Message)
    → due_in (sat_by rules setup commands).state.phase ≡ due (sat_by rules setup commands).log
unfolding fresh_state due
due-is rules setup commands = run_keeps AsSaid told-due _ refl commands
