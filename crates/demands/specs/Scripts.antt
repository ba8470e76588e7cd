-- What an auditor reads off the conversation of issuer scripts (request Twelve; CPA 18.8 and 20), by a reader of templates of its own, and no card:
-- which of a template's commands were done, what they wrote, and what the card then remembers.
use Rattle.std.specs.Prelude.{ℕ, suc, ◌+◌, ◌%◌, Bool, true, false, cond, not, ◌&&◌, ◌||◌, List, [], ◌∷◌, ◌++◌, eqb, Option, None, Some}
use Rattle.element.specs.declared.Write.{Write}
use Rattle.auditor.specs.Template.{commands_in, writes_in}
use Rattle.command.specs.declared.Second.{Second}
use Rattle.state.specs.declared.Answer.{Answer}
use Rattle.card.specs.Message.{Message, StartCommand, FirstCommand, SecondCommand, ScriptCommand}
use Rattle.demands.specs.Setup.{Setup, byte_at}
use Rattle.demands.specs.Conversation.{Exchange, is_accepted, by_outcome}

-- A TEMPLATE'S COMMANDS, tried in order until one fails: how many were done, whether one failed, and what those done wrote, in that order
pub record Trial : Type 0 where
  pub done : ℕ
  pub fails : Bool
  pub writes : List Write

-- a command that fails ends it, one that is done goes before the rest
abbrev pub first_tried : Option (List Write) → (rest : Trial) → Trial
first_tried None rest = record { done = 0; fails = true; writes = [] }
first_tried (Some ws) rest = record { done = suc rest.done; fails = rest.fails; writes = ws ++ rest.writes }

-- where they are not allowed, the first fails
unfoldable pub trial : (allowed : Bool) → List (List ℕ) → Trial
trial allowed [] = record { done = 0; fails = false; writes = [] }
trial allowed (command ∷ commands) = first_tried (cond allowed (writes_in command) None) (trial allowed commands)

-- WHAT A CARD REMEMBERS: how many were done, modulo 16; that one failed; that one failed since the last accepted Start
pub record Remembered : Type 0 where
  pub count : ℕ
  pub failed : Bool
  pub here : Bool

-- a script's are allowed where its secure messaging result is 1, verified, and none has failed since the last accepted Start
abbrev pub trial_of : (result : ℕ) (template : List ℕ) → Remembered → Trial
trial_of result template before = trial (eqb result 1 && not before.here) (commands_in template)

abbrev pub with_trial : Remembered → Trial → Remembered
with_trial before tried =
    record {
      count = (before.count + tried.done) % 16;
      failed = before.failed || tried.fails;
      here = before.here || tried.fails;
    }

-- a Second that verified clears "failed", and so does one without issuer data where authentication isn't required
abbrev pub clears : Setup → Second → Answer → Bool
clears setup second answer = is_accepted answer && by_outcome second false true false (eqb (byte_at setup 2) 0)

-- unless one failed in this transaction, which an accepted Start begins
abbrev pub remembered_by : Setup → Message → Answer → Remembered → Remembered
remembered_by setup (StartCommand start) answer before =
    cond (is_accepted answer) (record { count = before.count; failed = before.failed; here = false }) before
remembered_by setup (FirstCommand first) answer before = before
remembered_by setup (SecondCommand second) answer before =
    cond (clears setup second answer) (record { count = before.count; failed = before.failed && before.here; here = before.here }) before
remembered_by setup (ScriptCommand result template) answer before =
    cond (is_accepted answer) (with_trial before (trial_of result template before)) before

-- a fresh card's: none was done, none failed
unfoldable pub remembered : Setup → List Exchange → Remembered
remembered setup [] = record { count = 0; failed = false; here = false }
remembered setup (exchange ∷ older) = remembered_by setup exchange.command exchange.answer (remembered setup older)

-- WHAT A COMMAND WROTE, in that order: only a script writes
abbrev pub wrote_by : Message → Answer → Remembered → List Write
wrote_by (StartCommand start) answer before = []
wrote_by (FirstCommand first) answer before = []
wrote_by (SecondCommand second) answer before = []
wrote_by (ScriptCommand result template) answer before = cond (is_accepted answer) (trial_of result template before).writes []
