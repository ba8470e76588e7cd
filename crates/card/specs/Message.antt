-- What a card is sent, and what that comes to: a command, or an issuer's script (request Twelve).
use Rattle.std.specs.Prelude.{ℕ, List, []}
use Rattle.element.specs.declared.Write.{Write}
use Rattle.rules.specs.Rules.{Rules}
use Rattle.command.specs.declared.Start.{Start}
use Rattle.command.specs.declared.First.{First}
use Rattle.command.specs.declared.Second.{Second}
use Rattle.state.specs.declared.State.{State}
use Rattle.state.specs.declared.Outcome.{Outcome}
use Rattle.scripting.specs.Scripting.{script_step, script_writes}
use Rattle.card.specs.Card.{start_step, first_step, second_step}

-- a script comes with its secure messaging result and its template
pub data Message : Type 0 where
  StartCommand : Start → Message
  FirstCommand : First → Message
  SecondCommand : Second → Message
  ScriptCommand : (result : ℕ) → (template : List ℕ) → Message

unfoldable pub message_step : Rules → State → Message → Outcome
message_step rules state (StartCommand start) = start_step rules state start
message_step rules state (FirstCommand first) = first_step rules state first
message_step rules state (SecondCommand second) = second_step rules state second
message_step rules state (ScriptCommand result template) = script_step state result template

-- what is written: limits into the rules, and values; a script alone writes
unfoldable pub message_writes : State → Message → List Write
message_writes state (StartCommand start) = []
message_writes state (FirstCommand first) = []
message_writes state (SecondCommand second) = []
message_writes state (ScriptCommand result template) = script_writes state result template
