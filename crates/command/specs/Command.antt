-- The commands of a paper (document 01, "The paper" and "Refusal numbers"; document 02, Three, Five and Thirteen).
use Rattle.std.specs.Prelude.{ℕ, Bool, false, cond, not, ◌&&◌, ◌||◌, List, length, eqb, ltb, Err, None, Ok, Option, Result, Some}
use Rattle.wire.specs.Wire.{byte, number}
use Rattle.calendar.specs.Calendar.{date_at}
use Rattle.refusal.specs.declared.Refusal.TheVariants.{Unreadable}
use Rattle.refusal.specs.Refusal.{refusal_number}
use Rattle.rules.specs.declared.Values.{Values}
use Rattle.slot.specs.declared.Slots.{Slots}
use Rattle.selection.specs.Selection.{selection_of}
use Rattle.shape.specs.declared.Family.{Family}
use Rattle.shape.specs.declared.Shape.{Shape}
pub use Rattle.bodies.specs.Bodies.{is_cpace, interface_of, start_length, profile_named, plain_length, first_length, cvm_of, cashback_of}
pub use Rattle.choice.specs.Choice.{file_in, selected_in, amount_at}
unfoldable pub use Rattle.choice.specs.Choice.{slots_of}
use Rattle.command.specs.declared.Start.{Start}
use Rattle.command.specs.declared.First.{First}
use Rattle.command.specs.declared.Second.{Second}
use Rattle.command.specs.declared.Command.TheVariants.{Start as StartCommand, First as FirstCommand, Second as SecondCommand}
use Rattle.calendar.specs.declared.Date.{Date}
use Rattle.command.specs.declared.Command.{Command}
use Rattle.refusal.specs.declared.Refusal.{Refusal}
use Rattle.selection.specs.declared.Selected.{Selected}
use Rattle.shape.specs.declared.SelectionFile.{SelectionFile}
use Rattle.shape.specs.declared.Span.{Span}

unfoldable pub start_of : Family → List ℕ → Start
start_of family body = record { interface = interface_of family body; chosen = Some (record { profile = profile_named family body; visits = 0 }) }

abbrev pub when_of : Option Span → List ℕ → Option Date
when_of None body = None
when_of (Some part) body = Some (date_at body 12)

unfoldable pub first_of : Option Span → Family → List ℕ → First
first_of dating family body =
    record {
      requested = byte body 0;
      amount = record { 0 = number body 1 8 };
      currency = number body 9 2;
      terminal = byte body 11;
      when = when_of dating body;
      cvm = cvm_of dating family body;
      cashback = cashback_of dating family body;
    }

-- type (1), response code (2), issuer data (1), CSU (4)
unfoldable pub second_of : List ℕ → Second
second_of body = record { requested = byte body 0; code = number body 1 2; issuer = byte body 3; csu = number body 4 4 }

-- kinds 2, 3 and 4, each with its body's length; any other is unreadable
unfoldable pub command_of : Option Span → Family → (kind : ℕ) → List ℕ → Result Command Refusal
command_of dating family kind body =
    cond (eqb kind 2 && eqb (length body) (start_length family)) (Ok (StartCommand (start_of family body)))
    (cond (eqb kind 3 && eqb (length body) (first_length dating family)) (Ok (FirstCommand (first_of dating family body)))
    (cond (eqb kind 4 && eqb (length body) 8) (Ok (SecondCommand (second_of body))) (Err Unreadable)))

-- where profiles are selected a Start's body is the terminal's data, of any length, and to a CPACE card the interface (1) before it: the file
-- reads both
unfoldable pub start_selected : Family → Option Selected → List ℕ → Result Command Refusal
start_selected family chosen body =
    cond (is_cpace family && eqb (length body) 0) (Err Unreadable)
    (Ok (StartCommand (record { interface = interface_of family body; chosen = chosen })))

unfoldable pub selecting_of : Option Span → Family → Slots → (file : List ℕ) (entries kind : ℕ) (body : List ℕ) → Result Command Refusal
selecting_of dating family slots file entries kind body =
    cond (eqb kind 2) (start_selected family (selection_of file entries body slots) body) (command_of dating family kind body)

-- a record of a kind is a Start that selects its profile
abbrev pub is_selecting : Option SelectionFile → (kind : ℕ) → Bool
is_selecting None kind = false
is_selecting (Some part) kind = eqb kind 2

-- THE COMMAND IN A RECORD OF A PAPER, by the paper's shape and the card's present values
abbrev pub read_by : Option SelectionFile → Option Span → Family → Slots → (paper : List ℕ) (kind : ℕ) (body : List ℕ) → Result Command Refusal
read_by None dating family slots paper kind body = command_of dating family kind body
read_by (Some part) dating family slots paper kind body =
    selecting_of dating family slots (file_in paper part.start part.end) part.entries kind body

unfoldable pub command_in : Shape → Values → (paper : List ℕ) (kind : ℕ) (body : List ℕ) → Result Command Refusal
command_in shape values paper kind body =
    read_by shape.selecting shape.dating shape.family (slots_of shape.family values) paper kind body

-- WHETHER IT IS ONE, by its kind and its body's length: a Start that selects its profile has data of any length, to a CPACE card the interface at
-- least
abbrev pub is_command : Shape → (kind length : ℕ) → Bool
is_command shape kind length =
    cond (is_selecting shape.selecting kind) (ltb 0 length || not (is_cpace shape.family))
    (cond (eqb kind 2) (eqb length (start_length shape.family))
    (cond (eqb kind 3) (eqb length (first_length shape.dating shape.family)) (eqb kind 4 && eqb length 8)))

abbrev pub read_number : Result Command Refusal → ℕ
read_number (Ok command) = 0
read_number (Err refusal) = refusal_number refusal
