-- What is said to a card whose profiles are selected (document 02, Three and Thirteen): a Start brings the terminal's data, to a CPACE card behind
-- the interface, and the profile is the one that selection over the file's bytes gives; a CPACE card's entries may test what its accumulators and
-- counters hold, which an auditor reads off the conversation.
use Rattle.std.specs.Prelude.{ℕ, not, List, [], ◌∷◌, eqb, length}
use Rattle.slot.specs.declared.Slots.{Slots}
use Rattle.selection.specs.Selection.{selection_of}
use Rattle.purchase.specs.Meter.{accumulator, counter}
use Rattle.command.specs.declared.First.{First}
use Rattle.command.specs.declared.Second.{Second}
use Rattle.command.specs.declared.Command.{Command}
use Rattle.command.specs.declared.Command.TheVariants.{Start as StartOf, First as FirstOf, Second as SecondOf}
use Rattle.card.specs.Message.{Message, StartCommand, FirstCommand, SecondCommand, ScriptCommand}
use Rattle.auditor.specs.Template.{Bytes}
use Rattle.demands.specs.Setup.{Setup}
use Rattle.demands.specs.Conversation.{Exchange, Sitting, told}
use Rattle.demands.specs.Audit.{audited}

pub data Said : Type 0 where
  start : (terminal : List ℕ) → Said
  start_on : (interface : ℕ) (terminal : List ℕ) → Said
  first : First → Said
  second : Second → Said
  script : (result : ℕ) (template : List ℕ) → Said

-- the template of every script is bytes
abbrev pub IsBytes : Said → Type 0
IsBytes (start terminal) = Unit
IsBytes (start_on interface terminal) = Unit
IsBytes (first f) = Unit
IsBytes (second s) = Unit
IsBytes (script result template) = Bytes template

abbrev pub AllBytes : List Said → Type 0
AllBytes [] = Unit
AllBytes (now ∷ said) = IsBytes now × AllBytes said

-- what a CPACE card's entries may test: its accumulators and counters after the conversation so far
abbrev pub slots_by : Setup → List Exchange → Slots
slots_by setup log =
    record {
      testable = not (eqb (length setup.family) 0);
      amounts =
          audited setup log (accumulator 0) ∷ audited setup log (accumulator 1) ∷ audited setup log (accumulator 2)
          ∷ audited setup log (accumulator 3)
          ∷ [];
      counts =
          audited setup log (counter 0) ∷ audited setup log (counter 1) ∷ audited setup log (counter 2) ∷ audited setup log (counter 3) ∷ [];
    }

-- a command that was read, as it is sent
abbrev pub as_message : Command → Message
as_message (StartOf s) = StartCommand s
as_message (FirstOf f) = FirstCommand f
as_message (SecondOf s) = SecondCommand s

module _ (file : List ℕ) (entries : ℕ) where
  -- a Start on an interface, with the bytes that the file reads
  abbrev pub selecting : Slots → (interface : ℕ) (read : List ℕ) → Message
  selecting slots interface read = StartCommand (record { interface = interface; chosen = selection_of file entries read slots })

  -- a CPA card's has none, which stands as 0; a CPACE card's is the first byte that the file reads
  abbrev pub heard : Slots → Said → Message
  heard slots (start terminal) = selecting slots 0 terminal
  heard slots (start_on interface terminal) = selecting slots interface (interface ∷ terminal)
  heard slots (first f) = FirstCommand f
  heard slots (second s) = SecondCommand s
  heard slots (script result template) = ScriptCommand result template

  -- one thing after the other, each heard by what the card holds when it comes
  unfoldable pub all_heard : Setup → Sitting → List Said → List Message
  all_heard setup sitting [] = []
  all_heard setup sitting (now ∷ said) =
      let command = heard (slots_by setup sitting.log) now in
      command ∷ all_heard setup (told sitting command) said
