-- The text of request Seven's display: each line of a sitting, and behind it, while there is a card, one line for each profile in the set-up's
-- order. The lines may be shown without the rooms.
use Rattle.std.specs.Prelude.{Bool, cond, List, [], ◌++◌, ℕ, ◌+◌, leb, length}
use Rattle.std.proofs.lemmas.List.Edits.{sets}
use Rattle.rules.specs.Rules.{Rules}
use Rattle.records.specs.declared.Event.{Event}
use Rattle.records.specs.declared.Event.TheVariants.{SetUp, End, Refused, Answered}
use Rattle.lines.specs.Sitting.{event_line}
use Rattle.room_lines.specs.RoomLines.{room_lines}
use Rattle.record_lines.specs.declared.Showing.{Showing}
use Rattle.record_lines.specs.declared.Showing.TheVariants.{Lines, Rooms}

-- what is shown of the rooms' lines
abbrev pub shown_lines : Showing → List ℕ → List ℕ
shown_lines Lines lines = []
shown_lines Rooms lines = lines

-- behind the set-up's line there are rooms if it is not refused: then there is a card
abbrev pub set_up_lines : Showing → Rules → (rooms : List ℕ) → Event → List ℕ
set_up_lines showing rules rooms SetUp = shown_lines showing (room_lines rules rooms)
set_up_lines showing rules rooms End = []
set_up_lines showing rules rooms (Refused refusal) = []
set_up_lines showing rules rooms (Answered said answer) = []

unfoldable pub set_up_text : Showing → Rules → (rooms : List ℕ) → Event → List ℕ
set_up_text showing rules rooms event = event_line 0 event ++ set_up_lines showing rules rooms event

-- behind a record's line always, also where a refusal ends the paper: the card is as it was. A paper's end has no line
abbrev pub record_lines : Showing → Rules → (rooms : List ℕ) → Event → List ℕ
record_lines showing rules rooms SetUp = shown_lines showing (room_lines rules rooms)
record_lines showing rules rooms End = []
record_lines showing rules rooms (Refused refusal) = shown_lines showing (room_lines rules rooms)
record_lines showing rules rooms (Answered said answer) = shown_lines showing (room_lines rules rooms)

unfoldable pub record_text : Showing → Rules → (rooms : List ℕ) → (record-number : ℕ) → Event → List ℕ
record_text showing rules rooms record-number event = event_line record-number event ++ record_lines showing rules rooms event

-- 82 for the line and 372 for those of the rooms
abbrev pub longest : ℕ
longest = 454

-- the longest text fits from a place on
abbrev pub has_room : (bytes at : ℕ) → Bool
has_room bytes at = leb (at + longest) bytes

-- the text stands in the room from a place on, and all else stays; where the longest would not fit all stays
unfoldable pub placed : (room : List ℕ) (at : ℕ) (text : List ℕ) → List ℕ
placed room at text = cond (has_room (length room) at) (sets room at text) room

-- the place behind it, or the same place
unfoldable pub place_behind : (bytes at : ℕ) (text : List ℕ) → ℕ
place_behind bytes at text = cond (has_room bytes at) (at + length text) at
