-- A card and what was said to it and by it: over a list of commands, scripts among them, each command and its answer.
use Rattle.std.specs.Prelude.{ℕ, Bool, true, false, cond, ◌||◌, List, [], ◌∷◌, eqb}
use Rattle.rules.specs.Rules.{Rules, rules_of}
use Rattle.setup.specs.Setup.{rules_in, read_setup, words_after}
use Rattle.element.specs.declared.Write.{Write}
use Rattle.script.specs.Script.{rules_with, rules_after}
use Rattle.auditor.specs.Template.{Bytes}
use Rattle.command.specs.declared.Second.{Second}
use Rattle.state.specs.declared.Answer.{Answer}
use Rattle.state.specs.declared.Answer.TheVariants.{Refused, Started, Given, Done}
use Rattle.state.specs.declared.State.{State}
use Rattle.state.specs.declared.Outcome.{Outcome}
use Rattle.fresh.specs.Fresh.{fresh_state}
use Rattle.card.specs.Message.{Message, StartCommand, FirstCommand, SecondCommand, ScriptCommand, message_step, message_writes}
use Rattle.demands.specs.Setup.{Setup}

pub record Exchange : Type 0 where
  pub command : Message
  pub answer : Answer

-- the rules in force, the state, and the exchanges so far, the newest first
pub record Sitting : Type 0 where
  pub rules : Rules
  pub state : State
  pub log : List Exchange

-- what a command comes to
abbrev pub outcome_of : Sitting → Message → Outcome
outcome_of sitting command = message_step sitting.rules sitting.state command

-- the sitting then: a script alone writes the rules
abbrev pub after : Sitting → Message → Outcome → Sitting
after sitting command outcome =
    record {
      rules = rules_after sitting.rules (message_writes sitting.state command);
      state = outcome.state;
      log = record { command = command; answer = outcome.answer } ∷ sitting.log;
    }

abbrev pub told : Sitting → Message → Sitting
told sitting command = after sitting command (outcome_of sitting command)

unfoldable pub run : Sitting → List Message → Sitting
run sitting [] = sitting
run sitting (command ∷ commands) = run (told sitting command) commands

-- a card as reading a set-up makes it, over a list of commands, by these rules
abbrev pub sat_by : Rules → Setup → List Message → Sitting
sat_by rules setup commands =
    run (record { rules = rules; state = fresh_state (read_setup setup.bytes setup.tail setup.family setup.unnamed).fresh; log = [] }) commands

-- rules with what scripts wrote, the newest first
abbrev pub rules_written : Rules → List Write → Rules
rules_written rules [] = rules
rules_written rules (write ∷ older) = rules_with (rules_written rules older) write

-- by the rules that stand in the set-up's bytes, with what scripts wrote
abbrev pub rules_by : Setup → Rules
rules_by setup = rules_written (rules_in setup.bytes setup.tail setup.family setup.syllabus) setup.written

abbrev pub sat : Setup → List Message → Sitting
sat setup commands = sat_by (rules_by setup) setup commands

-- by those that stand in the words that it was lent, once it has read the set-up
abbrev pub sat_over : (words : List ℕ) → Setup → List Message → Sitting
sat_over words setup commands =
    sat_by
    (rules_written (rules_of (words_after words setup.bytes setup.tail setup.family setup.syllabus setup.unnamed)) setup.written)
    setup commands

-- what one command more comes to
abbrev pub next : Setup → List Message → Message → Outcome
next setup commands command = outcome_of (sat setup commands) command

-- the template of every script is bytes
abbrev pub IsSpoken : Message → Type 0
IsSpoken (StartCommand start) = Unit
IsSpoken (FirstCommand first) = Unit
IsSpoken (SecondCommand second) = Unit
IsSpoken (ScriptCommand result template) = Bytes template

abbrev pub Spoken : List Message → Type 0
Spoken [] = Unit
Spoken (command ∷ commands) = IsSpoken command × Spoken commands

-- an answer that refuses nothing
abbrev pub is_accepted : Answer → Bool
is_accepted (Refused refusal) = false
is_accepted (Started atc visits) = true
is_accepted (Given kind atc iad) = true
is_accepted Done = true

-- Y3 (5933) or Z3 (5A33)
abbrev pub could_not_go_online : ℕ → Bool
could_not_go_online code = eqb code 0x5933 || eqb code 0x5A33

-- what a Second comes with: Y3 or Z3; or any other code and issuer data verified (1), failed (2) or absent
abbrev pub by_outcome : {A : Type 0} → Second → (unable verified failed absent : A) → A
by_outcome second unable verified failed absent =
    cond (could_not_go_online second.code) unable (cond (eqb second.issuer 1) verified (cond (eqb second.issuer 2) failed absent))
