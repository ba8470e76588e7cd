-- What a step can be: a refusal, or a Start, a First, a Second or a script that is in turn and in range. Assumes nothing.
use mathlib.Core.Path.{◌≡◌, refl, subst}
use mathlib.Core.Bool.{Bool, true, false, cond, ◌&&◌}
use mathlib.Core.List.{List, []}
use Prim.Native.Nat.{ℕ, ◌≤◌}
use borrow.Author.Tests.{ltb-false, leb-true}
use lib.Dec.{leb, ltb, eqb}
use Rattle.wire.specs.Wire.{is_currency}
use Rattle.money.specs.Money.{max}
use Rattle.refusal.specs.declared.Refusal.{Refusal}
use Rattle.refusal.specs.declared.Refusal.TheVariants.{OutOfTurn, UnknownProfile, AtcUsedUp, BadType, OutOfRange, NotSelected, NotADay, Malformed, TooDeep}
use Rattle.rules.specs.declared.Place.{Place}
use Rattle.rules.specs.Rules.{Rules, find_profile}
use Rattle.selection.specs.Selection.{profile_of, visits_of}
use Rattle.command.specs.declared.Start.{Start}
use Rattle.command.specs.declared.First.{First}
use Rattle.command.specs.declared.Second.{Second}
use Rattle.object.specs.Object.{read_template}
use Rattle.script.specs.Script.{template_tried}
use Rattle.card.specs.Message.{Message, StartCommand, FirstCommand, SecondCommand, ScriptCommand, message_step, message_writes}
use Rattle.state.specs.declared.Pending.{Pending}
use Rattle.state.specs.declared.Phase.{Phase}
use Rattle.state.specs.declared.Phase.TheVariants.{Idle, Opened, Asked}
use Rattle.state.specs.declared.State.{State}
use Rattle.state.specs.declared.Outcome.{Outcome}
use Rattle.first.specs.First.{first_performed}
use Rattle.second.specs.Second.{second_performed}
use Rattle.state.specs.Ruling.{refuse, take, carried, refused}
use Rattle.card.specs.Card.{rule_chosen, rule_opening, is_dated, rule_first, rule_second, start_performed, start_step, first_step, second_step}
use Rattle.scripting.specs.Scripting.{rule_script, rule_script_fields, rule_reading, script_performed, script_step, writes_ruled, script_writes}
use Rattle.demands.proofs.Found.{Holds, Known, known}
use Rattle.std.specs.Prelude.{Err, None, Ok, Option, Result, Some}
use Rattle.object.specs.declared.Fault.{Fault}
use Rattle.object.specs.declared.Fault.TheVariants.{Malformed as NoTemplate, TooDeep as DeepTemplate}
use Rattle.selection.specs.declared.Selected.{Selected}

pub data Did (rules : Rules) (state : State) : Message → Outcome → Type 0 where
  refused_it : {command : Message} (refusal : Refusal) → message_writes state command ≡ [] → Did rules state command (refused state refusal)
  started_it : (start : Start) (place : Place) → Holds rules (profile_of start.chosen) place
      → Did rules state (StartCommand start) (start_performed state (visits_of start.chosen) place)
  took_first : (first : First) (place : Place) → state.phase ≡ Opened place → first.requested ≤ 2 → first.amount.0 ≤ max
      → is_dated first.when ≡ true
      → Did rules state (FirstCommand first) (first_performed rules state first place)
  took_second : (second : Second) (pending : Pending) → state.phase ≡ Asked pending → second.requested ≤ 1 → second.issuer ≤ 2
      → Did rules state (SecondCommand second) (second_performed rules state second pending)
  took_script : (result : ℕ) (template : List ℕ) → read_template template ≡ Ok tt
      → script_writes state result template ≡ (template_tried (eqb result 1) state.scripts template).writes
      → Did rules state (ScriptCommand result template) (script_performed state template (eqb result 1))

module _ (rules : Rules) (state : State) where
  opening_did : (start : Start) (found : Option Place) → Known rules (profile_of start.chosen) found
      → Did rules state (StartCommand start) (carried state (start_performed state (visits_of start.chosen)) (rule_opening state.atc found))
  unfolding message_writes
  opening_did start None missing = refused_it UnknownProfile refl
  opening_did start (Some place) holds = by (eqb state.atc 65535) where
    by : (b : Bool)
        → Did rules state (StartCommand start) (carried state (start_performed state (visits_of start.chosen)) (cond b (refuse AtcUsedUp) (take place)))
    by true = refused_it AtcUsedUp refl
    by false = started_it start place holds

  chosen_did : (start : Start) (chosen : Option Selected) → start.chosen ≡ chosen
      → Did rules state (StartCommand start) (carried state (start_performed state (visits_of chosen)) (rule_chosen rules state.atc chosen))
  unfolding message_writes
  chosen_did start None is = refused_it NotSelected refl
  chosen_did start (Some chosen) is =
      subst (λ c. Did rules state (StartCommand start)
      (carried state (start_performed state (visits_of c)) (rule_opening state.atc (find_profile rules (profile_of c))))) is
      (opening_did start (find_profile rules (profile_of start.chosen)) (known rules (profile_of start.chosen)))

  start_did : (start : Start) (b : Bool)
      → Did rules state (StartCommand start) (carried state (start_performed state (visits_of start.chosen))
      (cond b (refuse OutOfRange) (rule_chosen rules state.atc start.chosen)))
  unfolding message_writes
  start_did start true = refused_it OutOfRange refl
  start_did start false = chosen_did start start.chosen refl

  first_did : (first : First) (phase : Phase) → state.phase ≡ phase
      → Did rules state (FirstCommand first) (carried state (first_performed rules state first) (rule_first phase first))
  unfolding message_writes
  first_did first Idle is = refused_it OutOfTurn refl
  first_did first (Asked pending) is = refused_it OutOfTurn refl
  first_did first (Opened place) is =
      by (ltb 2 first.requested) refl (leb first.amount.0 max) refl (is_currency first.currency) (is_dated first.when) refl
    where
      by : (a : Bool) → ltb 2 first.requested ≡ a → (b : Bool) → leb first.amount.0 max ≡ b → (c d : Bool) → is_dated first.when ≡ d
          → Did rules state (FirstCommand first) (carried state (first_performed rules state first)
          (cond a (refuse BadType) (cond (b && c) (cond d (take place) (refuse NotADay)) (refuse OutOfRange))))
      by true t b m c d w = refused_it BadType refl
      by false t true m true true w = took_first first place is (ltb-false 2 first.requested t) (leb-true first.amount.0 max m) w
      by false t true m true false w = refused_it NotADay refl
      by false t true m false d w = refused_it OutOfRange refl
      by false t false m c d w = refused_it OutOfRange refl

  second_did : (second : Second) (phase : Phase) → state.phase ≡ phase
      → Did rules state (SecondCommand second) (carried state (second_performed rules state second) (rule_second phase second))
  unfolding message_writes
  second_did second Idle is = refused_it OutOfTurn refl
  second_did second (Opened place) is = refused_it OutOfTurn refl
  second_did second (Asked pending) is = by (ltb 1 second.requested) refl (ltb 2 second.issuer) refl where
    by : (a : Bool) → ltb 1 second.requested ≡ a → (b : Bool) → ltb 2 second.issuer ≡ b
        → Did rules state (SecondCommand second) (carried state (second_performed rules state second)
        (cond a (refuse BadType) (cond b (refuse OutOfRange) (take pending))))
    by true t b i = refused_it BadType refl
    by false t true i = refused_it OutOfRange refl
    by false t false i = took_second second pending is (ltb-false 1 second.requested t) (ltb-false 2 second.issuer i)

  reading_did : (result : ℕ) (template : List ℕ) (reading : Result Unit Fault) → read_template template ≡ reading
      → script_writes state result template ≡ writes_ruled state.scripts template (rule_reading (eqb result 1) reading)
      → Did rules state (ScriptCommand result template) (carried state (script_performed state template) (rule_reading (eqb result 1) reading))
  unfolding message_writes
  reading_did result template (Ok done) is wrote = took_script result template is wrote
  reading_did result template (Err NoTemplate) is wrote = refused_it Malformed wrote
  reading_did result template (Err DeepTemplate) is wrote = refused_it TooDeep wrote

  fields_did : (result : ℕ) (template : List ℕ)
      → script_writes state result template ≡ writes_ruled state.scripts template (rule_script_fields result template)
      → Did rules state (ScriptCommand result template) (carried state (script_performed state template) (rule_script_fields result template))
  unfolding message_writes
  fields_did result template wrote = by (ltb 1 result) wrote where
    by : (b : Bool)
        → script_writes state result template
        ≡ writes_ruled state.scripts template (cond b (refuse OutOfRange) (rule_reading (eqb result 1) (read_template template)))
        → Did rules state (ScriptCommand result template)
        (carried state (script_performed state template) (cond b (refuse OutOfRange) (rule_reading (eqb result 1) (read_template template))))
    by true wrote = refused_it OutOfRange wrote
    by false wrote = reading_did result template (read_template template) refl wrote

  script_did : (result : ℕ) (template : List ℕ) (phase : Phase)
      → script_writes state result template ≡ writes_ruled state.scripts template (rule_script phase result template)
      → Did rules state (ScriptCommand result template) (carried state (script_performed state template) (rule_script phase result template))
  unfolding message_writes
  script_did result template Idle wrote = fields_did result template wrote
  script_did result template (Opened place) wrote = refused_it OutOfTurn wrote
  script_did result template (Asked pending) wrote = fields_did result template wrote

  pub did : (command : Message) → Did rules state command (message_step rules state command)
  unfolding message_step message_writes start_step first_step second_step script_step script_writes
  did (StartCommand start) = start_did start (ltb 1 start.interface)
  did (FirstCommand first) = first_did first state.phase refl
  did (SecondCommand second) = second_did second state.phase refl
  did (ScriptCommand result template) = script_did result template state.phase refl
