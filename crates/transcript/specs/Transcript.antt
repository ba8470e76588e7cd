-- The lines of a whole paper as one text, and the room that it is written into (document 01, "A sitting in full").
use Rattle.std.specs.Prelude.{cond, List, [], ℕ, ◌+◌, length, None, Option, Some}
use Rattle.std.proofs.lemmas.List.Edits.{sets}
unfoldable pub use Rattle.text.specs.Text.{joined}
use Rattle.refusal.specs.Refusal.{refusal_number}
use Rattle.rules.specs.Rules.{Rules}
use Rattle.shape.specs.declared.Shape.{Shape}
use Rattle.state.specs.declared.State.{State}
use Rattle.records.specs.declared.Event.{Event}
use Rattle.records.specs.declared.Event.TheVariants.{SetUp, End, Refused, Answered}
use Rattle.conversation.specs.Events.{events_from, words_left}
use Rattle.lines.specs.Lines.{refusal_line}
use Rattle.lines.specs.Sitting.{lines_of, sitting_lines}
pub use Rattle.paper_room.specs.PaperRoom.{room_for, has_room}

-- what is printed of a paper, with the words that it was lent
unfoldable pub transcript_of : (words paper : List ℕ) → List ℕ
transcript_of words paper = joined (sitting_lines words paper)

-- and of its records from a place on, the first of which has a number
unfoldable pub rest_of : Rules → Shape → State → (paper : List ℕ) (at record-number : ℕ) → List ℕ
rest_of rules shape state paper at record-number = joined (lines_of record-number (events_from (length paper) rules shape state paper at))

-- the line of a record that ends the paper: refusal 9, or none at its end
abbrev pub last_line : (record-number : ℕ) → Event → List ℕ
last_line record-number (Refused refusal) = refusal_line record-number (refusal_number refusal)
last_line record-number SetUp = []
last_line record-number End = []
last_line record-number (Answered said answer) = []

-- the number that a set-up's line says: its refusal's, or 0
abbrev pub set_up_number : Event → ℕ
set_up_number (Refused refusal) = refusal_number refusal
set_up_number SetUp = 0
set_up_number End = 0
set_up_number (Answered said answer) = 0

-- where the text ends, or that there is no room
unfoldable pub transcribed : (words paper room : List ℕ) (at : ℕ) → Option ℕ
transcribed words paper room at =
    cond (has_room (length room) at (length paper)) (Some (at + length (transcript_of words paper))) None

-- the room holds the text from the place on, and all else stays; where there is no room all stays, and so do the words
unfoldable pub room_after : (words paper room : List ℕ) (at : ℕ) → List ℕ
room_after words paper room at = cond (has_room (length room) at (length paper)) (sets room at (transcript_of words paper)) room

unfoldable pub words_after : (words paper room : List ℕ) (at : ℕ) → List ℕ
words_after words paper room at = cond (has_room (length room) at (length paper)) (words_left words paper) words
