-- What is shown of a whole paper (requests Seven and Eight): its entries, each a line of the sitting and the lines of the rooms behind it, and behind
-- everything the lines of its log.
use Rattle.std.specs.Prelude.{List, [], ◌∷◌, ◌++◌, ℕ, zero, suc, ◌+◌, length}
use Rattle.rules.specs.Rules.{Rules, rules_of}
use Rattle.shape.specs.declared.Shape.{Shape}
use Rattle.script.specs.Script.{rules_after}
use Rattle.state.specs.declared.State.{State}
use Rattle.records.specs.declared.Event.{Event}
use Rattle.records.specs.declared.Event.TheVariants.{SetUp, End, Refused, Answered}
use Rattle.conversation.specs.Conversation.{taken_of, taken_writes}
use Rattle.opening.specs.Opening.{begun_of, words_begun}
use Rattle.keeper.specs.Keeper.{rooms_taken, rooms_begun}
use Rattle.lines.specs.Sitting.{event_line}
use Rattle.shown.specs.declared.Wants.{Wants}
use Rattle.shown.specs.declared.Wants.TheVariants.{Record, Room, Run, Nothing}
use Rattle.record_lines.specs.declared.Showing.{Showing}
use Rattle.record_lines.specs.declared.Showing.TheVariants.{Rooms}
use Rattle.shown.specs.declared.Shown.{Shown}
use Rattle.room_lines.specs.RoomLines.{room_lines}
use Rattle.record_lines.specs.RecordLines.{shown_lines, set_up_lines}
use Rattle.transcript.specs.Transcript.{transcript_of}
use Rattle.paper_text.specs.PaperText.{log_behind}
use Rattle.display.specs.Shown.{begun_text, begun_shown, next_text, next_rules, next_rooms, next_shown}

pub record Entry : Type 0 where
  pub line : List ℕ
  pub rooms : List ℕ

-- an entry, and those behind it where the conversation goes on; a paper's end has none
abbrev pub entered : Event → Entry → List Entry → List Entry
entered SetUp entry more = entry ∷ more
entered End entry more = []
entered (Refused refusal) entry more = entry ∷ []
entered (Answered said answer) entry more = entry ∷ more

-- those of n records from a place on, by the rules and the cells as the record before left them
unfoldable pub entries_from : ℕ → Rules → (rooms : List ℕ) → Shape → State → (paper : List ℕ) (at record-number : ℕ) → List Entry
entries_from zero rules rooms shape state paper at record-number = []
entries_from (suc n) rules rooms shape state paper at record-number =
    let taken = taken_of rules shape state paper at in
    let then = rules_after rules (taken_writes shape state paper at) in
    let left = rooms_taken rules shape state paper at rooms in
    entered taken.event (record { line = event_line record-number taken.event; rooms = room_lines then left })
    (entries_from n then left shape taken.state paper taken.at (record-number + 1))

-- those of a paper, with the words and the cells that it was lent; no paper has more records than bytes
unfoldable pub entries_of : (words rooms paper : List ℕ) → List Entry
entries_of words rooms paper =
    let begun = begun_of paper in
    let then = rules_of (words_begun words paper) in
    let left = rooms_begun words rooms paper in
    entered begun.event (record { line = event_line 0 begun.event; rooms = set_up_lines Rooms then left begun.event })
    (entries_from (length paper) then left begun.shape begun.state paper begun.at 1)

-- one behind the other, with the rooms or without
unfoldable pub text_of : Showing → List Entry → List ℕ
text_of showing [] = []
text_of showing (entry ∷ more) = (entry.line ++ shown_lines showing entry.rooms) ++ text_of showing more

unfoldable pub display_of : (words rooms paper : List ℕ) → List ℕ
display_of words rooms paper = text_of Rooms (entries_of words rooms paper)

-- STEP BY STEP: the text of the steps, while a further record is wanted
abbrev pub goes_on : Wants → List ℕ → List ℕ
goes_on Record more = more
goes_on Room more = []
goes_on Run more = []
goes_on Nothing more = []

unfoldable pub steps_from : ℕ → Showing → Rules → (rooms : List ℕ) → Shown → (paper : List ℕ) → List ℕ
steps_from zero showing rules rooms shown paper = []
steps_from (suc n) showing rules rooms shown paper =
    let next = next_shown rules shown paper 0 in
    next_text rules shown paper showing rooms
    ++ goes_on next.wants (steps_from n showing (next_rules rules shown paper) (next_rooms rules shown paper rooms) next paper)

unfoldable pub steps_of : Showing → (words rooms paper : List ℕ) → List ℕ
steps_of showing words rooms paper =
    let begun = begun_shown paper 0 in
    begun_text showing words rooms paper
    ++ goes_on begun.wants (steps_from (length paper) showing (rules_of (words_begun words paper)) (rooms_begun words rooms paper) begun paper)

-- WITH ITS LOG, which the paper answered once more tells, behind the last step
unfoldable pub shown_of : Showing → (words rooms paper : List ℕ) → List ℕ
shown_of showing words rooms paper = steps_of showing words rooms paper ++ log_behind paper (transcript_of words paper)
