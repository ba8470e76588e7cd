-- A record answered (document 01, "The paper"; request Twelve).
use Rattle.std.specs.Prelude.{ℕ, Bool, cond, ◌&&◌, List, [], ◌∷◌, eqb, ltb, Err, Ok, Result}
use Rattle.refusal.specs.declared.Refusal.TheVariants.{Unreadable}
use Rattle.rules.specs.Rules.{Rules}
use Rattle.shape.specs.declared.Shape.{Shape}
use Rattle.command.specs.Command.{command_in, is_command}
use Rattle.state.specs.declared.State.{State}
use Rattle.element.specs.declared.Write.{Write}
use Rattle.card.specs.Card.{step_of}
use Rattle.scripting.specs.Scripting.{script_step, script_writes}
use Rattle.records.specs.declared.Event.TheVariants.{Refused, Answered}
use Rattle.records.specs.declared.Said.TheVariants.{Command as SaidCommand, Script}
use Rattle.records.specs.declared.Taken.{Taken}
use Rattle.command.specs.declared.Command.{Command}
use Rattle.refusal.specs.declared.Refusal.{Refusal}

-- a command is answered; refusal 9 ends the paper
unfoldable pub answered_by : Rules → State → (end : ℕ) → Result Command Refusal → Taken
answered_by rules state end (Err refusal) = record { state = state; at = end; event = Refused refusal }
answered_by rules state end (Ok command) =
    record { state = (step_of rules state command).state; at = end; event = Answered (SaidCommand command) (step_of rules state command).answer }

-- a script's body is the secure messaging result, and the template to its end; refusal 9 for one without a byte
unfoldable pub scripted_by : State → (body : List ℕ) → (end : ℕ) → Taken
scripted_by state [] end = record { state = state; at = end; event = Refused Unreadable }
scripted_by state (result ∷ template) end =
    record { state = (script_step state result template).state; at = end; event = Answered Script (script_step state result template).answer }

-- kind 5, where scripts are on
abbrev pub is_script : Shape → (kind : ℕ) → Bool
is_script shape kind = shape.scripting && eqb kind 5

-- a script, or a command; the file that a Start selects from is the paper's
abbrev pub record_taken : Rules → Shape → State → (paper : List ℕ) (kind : ℕ) (body : List ℕ) (end : ℕ) → Taken
record_taken rules shape state paper kind body end =
    cond (is_script shape kind) (scripted_by state body end) (answered_by rules state end (command_in shape state.values paper kind body))

-- what it writes: limits, which are then in the words and the rules, and values; a script alone writes
unfoldable pub body_writes : State → (body : List ℕ) → List Write
body_writes state [] = []
body_writes state (result ∷ template) = script_writes state result template

abbrev pub record_writes : Shape → State → (kind : ℕ) (body : List ℕ) → List Write
record_writes shape state kind body = cond (is_script shape kind) (body_writes state body) []

-- WHETHER IT CAN BE READ, by its kind and its body's length: a script that has a byte, or a command
abbrev pub can_be_read : Shape → (kind length : ℕ) → Bool
can_be_read shape kind length = cond (is_script shape kind) (ltb 0 length) (is_command shape kind length)
