-- The card's history and its ATC are those that the conversation and the set-up's bytes say. Assumes nothing.
use mathlib.Core.Path.{◌≡◌, refl, ap, ap₂, ◌∙◌}
use mathlib.Core.Bool.{Bool, true, false, cond, ◌&&◌}
use mathlib.Core.List.{List, []}
use Prim.Native.Nat.{ℕ, ◌+◌, ◌/◌, ◌%◌}
use native.Mathlib.Omega.{arith}
use lib.Dec.{eqb}
use Rattle.calendar.specs.declared.Date.{Date}
use Rattle.refusal.specs.declared.Refusal.{Refusal}
use Rattle.iad.specs.declared.Cvr.{Cvr}
use Rattle.rules.specs.declared.Place.{Place}
use Rattle.rules.specs.declared.Values.{Values}
use Rattle.rules.specs.Rules.{Rules}
use Rattle.setup.specs.Setup.{fresh_in, read_setup}
use Rattle.command.specs.declared.First.{First}
use Rattle.command.specs.declared.Second.{Second}
use Rattle.card.specs.Message.{Message, StartCommand, FirstCommand, SecondCommand, ScriptCommand}
use Rattle.purchase.specs.declared.Purchase.{Purchase}
use Rattle.marks.specs.declared.Scripts.{Scripts}
use Rattle.state.specs.declared.History.{History}
use Rattle.cryptogram.specs.declared.Issuer.{Issuer}
use Rattle.state.specs.declared.Kind.{Kind}
use Rattle.state.specs.declared.Kind.TheVariants.{Aac, Tc, Arqc}
use Rattle.state.specs.declared.Pending.{Pending}
use Rattle.state.specs.declared.State.{State}
use Rattle.state.specs.declared.Outcome.{Outcome}
use Rattle.cycles.specs.Cycles.{timing_of, dated}
use Rattle.first.specs.First.{first_kind, first_performed, first_answered, settled, asked, concluded}
use Rattle.state.specs.State.{uncompleted_in, unable_in}
use Rattle.second.specs.Second.{is_unable, unable_performed, verified_performed, failed_performed, absent_performed, second_performed, update_byte}
use Rattle.closing.specs.Closing.{closed}
use Rattle.state.specs.Ruling.{refused}
use Rattle.scripting.specs.Scripting.{script_performed}
use Rattle.fresh.specs.Fresh.{fresh_state}
use Rattle.demands.specs.Setup.{Setup, AcceptedSetup}
use Rattle.demands.specs.Conversation.{Sitting, after, told, run, rules_by, sat, next, Spoken}
use Rattle.demands.specs.Audit.{in_force}
use Rattle.demands.specs.Past.{past, atc_by, Says}
use Rattle.demands.proofs.Step.{Did, refused_it, started_it, took_first, took_second, took_script}
use Rattle.demands.proofs.Run.{ruled_keeps, always_ruled, did_by}
use Rattle.demands.proofs.Bytes.{all_fit_lem, required-is}
use Rattle.demands.proofs.Dated.{same-history, same-atc}

pub record Recalls (setup : Setup) (sitting : Sitting) : Type 0 where
  pub history-is : sitting.state.history ≡ past setup sitting.log
  pub atc-is : sitting.state.atc ≡ atc_by setup sitting.log

-- after a step: the history and the ATC, and the ATC that was said
pub record Keeps (setup : Setup) (sitting : Sitting) (command : Message) (outcome : Outcome) : Type 0 where
  pub recalls : Recalls setup (after sitting command outcome)
  pub says : Says outcome.answer (atc_by setup (after sitting command outcome).log)

module _ (setup : Setup) (sitting : Sitting) (recalls : Recalls setup sitting) where
  abbrev rules : Rules
  rules = rules_by (in_force setup sitting.log)

  abbrev state : State
  state = sitting.state

  refused_keeps : (command : Message) (r : Refusal) → Keeps setup sitting command (refused state r)
  unfolding past atc_by
  refused_keeps (StartCommand start) r = record { recalls = record { history-is = recalls.history-is; atc-is = recalls.atc-is }; says = tt }
  refused_keeps (FirstCommand first) r = record { recalls = record { history-is = recalls.history-is; atc-is = recalls.atc-is }; says = tt }
  refused_keeps (SecondCommand second) r = record { recalls = record { history-is = recalls.history-is; atc-is = recalls.atc-is }; says = tt }
  refused_keeps (ScriptCommand result template) r = record { recalls = record { history-is = recalls.history-is; atc-is = recalls.atc-is }; says = tt }

  -- a First's date leaves both
  concluded_keeps : (first : First) (place : Place) (purchase : Purchase) (limits : ℕ) (cvr : Cvr) (kind : Kind)
      → Keeps setup sitting (FirstCommand first) (concluded rules (dated rules state first.when) place purchase limits cvr kind)
  unfolding settled asked concluded past atc_by
  concluded_keeps first place purchase limits cvr kind = by kind where
    past_is : (dated rules state first.when).history ≡ past setup sitting.log
    past_is = same-history rules state first.when ∙ recalls.history-is

    atc_then : (dated rules state first.when).atc ≡ atc_by setup sitting.log
    atc_then = same-atc rules state first.when ∙ recalls.atc-is

    by : (kind : Kind) → Keeps setup sitting (FirstCommand first) (concluded rules (dated rules state first.when) place purchase limits cvr kind)
    by Tc = record { recalls = record { history-is = past_is; atc-is = atc_then }; says = atc_then }
    by Aac = record { recalls = record { history-is = past_is; atc-is = atc_then }; says = atc_then }
    by Arqc = record { recalls = record { history-is = ap uncompleted_in past_is; atc-is = atc_then }; says = atc_then }

  closed_keeps : (second : Second) (pending : Pending) (approves : Bool) (values : Values) (last : Date) (history : History) (scripts : Scripts) (issuer : Issuer)
      → history ≡ past setup (after sitting (SecondCommand second) (closed rules state.atc pending approves values last history scripts issuer)).log
      → Keeps setup sitting (SecondCommand second) (closed rules state.atc pending approves values last history scripts issuer)
  unfolding closed atc_by
  closed_keeps second pending approves values last history scripts issuer is =
      record { recalls = record { history-is = is; atc-is = recalls.atc-is }; says = recalls.atc-is }

  unable_keeps : (second : Second) (pending : Pending) → is_unable second.code ≡ true → (approves : Bool) (values : Values) (last : Date) (scripts : Scripts) (issuer : Issuer)
      → Keeps setup sitting (SecondCommand second) (closed rules state.atc pending approves values last (unable_in state.history) scripts issuer)
  unfolding past closed
  unable_keeps second pending u approves values last scripts issuer =
      closed_keeps second pending approves values last (unable_in state.history) scripts issuer (rw u (ap unable_in recalls.history-is))

  module _ (second : Second) (pending : Pending) (u : is_unable second.code ≡ false) (approves : Bool) (values : Values) (last : Date) (scripts : Scripts) (issuer : Issuer) where
    abbrev closing : History → Outcome
    closing history = closed rules state.atc pending approves values last history scripts issuer

    abbrev when_verified : Bool → History
    when_verified online = record { uncompleted = false; online = online; failed = false; unable = false; missing = false }

    abbrev when_failed : History → History
    when_failed h = record { uncompleted = h.uncompleted; online = h.online; failed = true; unable = h.unable; missing = h.missing }

    abbrev when_absent : Bool → History → History
    when_absent required h =
        record { uncompleted = h.uncompleted && required; online = h.online; failed = h.failed; unable = h.unable; missing = true }

    verified_keeps : eqb second.issuer 1 ≡ true
        → Keeps setup sitting (SecondCommand second) (closing (when_verified (eqb (update_byte second.csu / 8 % 2) 1)))
    unfolding past closed
    verified_keeps v =
        let b4 : second.csu / 65536 % 256 / 8 % 2 ≡ second.csu / 65536 / 8 % 2 = omega arith in
        closed_keeps second pending approves values last (when_verified (eqb (update_byte second.csu / 8 % 2) 1)) scripts issuer (rw (u, v, b4))

    failed_keeps : eqb second.issuer 1 ≡ false → eqb second.issuer 2 ≡ true
        → Keeps setup sitting (SecondCommand second) (closing (when_failed state.history))
    unfolding past closed
    failed_keeps v f =
        closed_keeps second pending approves values last (when_failed state.history) scripts issuer (rw (u, v, f) (ap when_failed recalls.history-is))

    absent_keeps : eqb second.issuer 1 ≡ false → eqb second.issuer 2 ≡ false
        → Keeps setup sitting (SecondCommand second) (closing (when_absent rules.required state.history))
    unfolding past closed
    absent_keeps v f =
        closed_keeps second pending approves values last (when_absent rules.required state.history) scripts issuer
        (rw (u, v, f) (ap₂ when_absent (required-is (in_force setup sitting.log)) recalls.history-is))

  second_keeps : (second : Second) (pending : Pending) → Keeps setup sitting (SecondCommand second) (second_performed rules state second pending)
  unfolding second_performed unable_performed verified_performed failed_performed absent_performed
  second_keeps second pending = by (is_unable second.code) refl (eqb second.issuer 1) refl (eqb second.issuer 2) refl where
    by : (u : Bool) → is_unable second.code ≡ u → (v : Bool) → eqb second.issuer 1 ≡ v → (f : Bool) → eqb second.issuer 2 ≡ f
        → Keeps setup sitting (SecondCommand second) (cond u (unable_performed rules state second.requested pending)
        (cond v (verified_performed rules state second pending)
        (cond f (failed_performed rules state pending) (absent_performed rules state second.requested pending))))
    by true u v p f q = unable_keeps second pending u _ _ _ _ _
    by false u true p f q = verified_keeps second pending u _ _ _ _ _ p
    by false u false p true q = failed_keeps second pending u _ _ _ _ _ p q
    by false u false p false q = absent_keeps second pending u _ _ _ _ _ p q

  pub did_keeps : {command : Message} {outcome : Outcome} → Did rules state command outcome → Keeps setup sitting command outcome
  unfolding past atc_by first_performed first_answered script_performed
  did_keeps {command} (refused_it r wrote) = refused_keeps command r
  did_keeps (started_it start place holds) =
      record {
        recalls = record { history-is = recalls.history-is; atc-is = ap (λ n. n + 1) recalls.atc-is };
        says = ap (λ n. n + 1) recalls.atc-is;
      }
  did_keeps (took_first first place is type small day) =
      concluded_keeps first place _ _ _ (first_kind rules (dated rules state first.when) place first (timing_of state.last first.when))
  did_keeps (took_second second pending is type issuer) = second_keeps second pending
  did_keeps (took_script result template sound wrote) =
      record { recalls = record { history-is = recalls.history-is; atc-is = recalls.atc-is }; says = tt }

module _ (setup : Setup) where
  pub begin_recalls : AcceptedSetup setup → Recalls setup (sat setup [])
  unfolding run fresh_state fresh_in read_setup past atc_by
  begin_recalls good = rw (all_fit_lem good) (record { history-is = refl; atc-is = refl })

  module _ (good : AcceptedSetup setup) (commands : List Message) (spoken : Spoken commands) where
    recalled : Recalls setup (sat setup commands)
    recalled =
        ruled_keeps setup good (Recalls setup) (λ sitting ruled h command s. (did_keeps setup sitting h (did_by setup sitting ruled command)).recalls)
        (begin_recalls good) commands spoken

    -- THE HISTORY
    pub history : (sat setup commands).state.history ≡ past setup (sat setup commands).log
    history = recalled.history-is

    -- THE ATC, of the card and of each answer
    pub atc : (sat setup commands).state.atc ≡ atc_by setup (sat setup commands).log
    atc = recalled.atc-is

    pub said : (command : Message) → Says (next setup commands command).answer (atc_by setup (told (sat setup commands) command).log)
    said command =
        (did_keeps setup (sat setup commands) recalled (did_by setup (sat setup commands) (always_ruled setup good commands spoken) command)).says
