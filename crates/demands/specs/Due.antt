-- What is due, read off the conversation alone (document 01, "Start and the checks", "First: the answer", "Second: the answer"); and the
-- kind of answer that each command gets.
use Rattle.std.specs.Prelude.{cond, List, [], ◌∷◌}
use Rattle.card.specs.Message.{Message, StartCommand, FirstCommand, SecondCommand, ScriptCommand}
use Rattle.state.specs.declared.Answer.{Answer}
use Rattle.state.specs.declared.Answer.TheVariants.{Refused, Started, Given, Done}
use Rattle.state.specs.declared.Kind.TheVariants.{Aac, Tc, Arqc}
use Rattle.state.specs.declared.Phase.{Phase}
use Rattle.state.specs.declared.Phase.TheVariants.{Idle, Opened, Asked}
use Rattle.demands.specs.Conversation.{Exchange, is_accepted}
use Rattle.demands.specs.Past.{is_arqc}

pub data Due : Type 0 where
  nothing : Due
  a_first : Due
  a_second : Due

-- Start is allowed at any time, drops an unfinished transaction and opens the profile; at First an ARQC asks for a Second, TC or AAC closes
-- the transaction; Second closes it; a script leaves what is due; a refusal changes nothing
abbrev pub due_by : Message → Answer → Due → Due
due_by (StartCommand start) answer before = cond (is_accepted answer) a_first before
due_by (FirstCommand first) answer before = cond (is_accepted answer) (cond (is_arqc answer) a_second nothing) before
due_by (SecondCommand second) answer before = cond (is_accepted answer) nothing before
due_by (ScriptCommand result template) answer before = before

-- on a fresh card no transaction is open
unfoldable pub due : List Exchange → Due
due [] = nothing
due (exchange ∷ older) = due_by exchange.command exchange.answer (due older)

-- what the card's own phase says
abbrev pub due_in : Phase → Due
due_in Idle = nothing
due_in (Opened place) = a_first
due_in (Asked pending) = a_second

-- a command that is taken is answered in its kind: Start starts, First gives a cryptogram, Second a TC or an AAC, a script is done
abbrev pub InKind : Message → Answer → Type 0
InKind (StartCommand start) (Refused refusal) = ⊥
InKind (StartCommand start) (Started atc visits) = Unit
InKind (StartCommand start) (Given kind atc iad) = ⊥
InKind (StartCommand start) Done = ⊥
InKind (FirstCommand first) (Refused refusal) = ⊥
InKind (FirstCommand first) (Started atc visits) = ⊥
InKind (FirstCommand first) (Given kind atc iad) = Unit
InKind (FirstCommand first) Done = ⊥
InKind (SecondCommand second) (Refused refusal) = ⊥
InKind (SecondCommand second) (Started atc visits) = ⊥
InKind (SecondCommand second) (Given Aac atc iad) = Unit
InKind (SecondCommand second) (Given Tc atc iad) = Unit
InKind (SecondCommand second) (Given Arqc atc iad) = ⊥
InKind (SecondCommand second) Done = ⊥
InKind (ScriptCommand result template) (Refused refusal) = ⊥
InKind (ScriptCommand result template) (Started atc visits) = ⊥
InKind (ScriptCommand result template) (Given kind atc iad) = ⊥
InKind (ScriptCommand result template) Done = Unit
