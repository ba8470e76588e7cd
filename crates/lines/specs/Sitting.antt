-- The lines of a whole sitting (document 01, "A sitting in full"): its events as lines, numbered from 0, the set-up's.
use Rattle.std.specs.Prelude.{cond, List, [], ◌∷◌, ℕ, ◌+◌, eqb}
use Rattle.refusal.specs.Refusal.{refusal_number}
use Rattle.state.specs.declared.Answer.{Answer}
use Rattle.state.specs.declared.Answer.TheVariants.{Refused, Started, Given, Done}
use Rattle.state.specs.State.{cid_of}
use Rattle.records.specs.declared.Event.{Event}
use Rattle.records.specs.declared.Event.TheVariants.{SetUp, End, Refused as EndRefused, Answered}
use Rattle.conversation.specs.Events.{events_of}
use Rattle.lines.specs.Lines.{refusal_line, start_line, selected_line, cryptogram_line}

-- a Start's line shows the visits where a profile was selected: then at least one entry was visited
abbrev pub started_line : (number atc visits : ℕ) → List ℕ
started_line number atc visits = cond (eqb visits 0) (start_line number atc) (selected_line number atc visits)

-- the line of an answer
unfoldable pub answer_line : ℕ → Answer → List ℕ
answer_line number (Refused refusal) = refusal_line number (refusal_number refusal)
answer_line number (Started atc visits) = started_line number atc visits
answer_line number (Given kind atc iad) = cryptogram_line number (cid_of kind) atc iad
answer_line number Done = refusal_line number 0

-- and of an event; a paper's end has none
abbrev pub event_line : ℕ → Event → List ℕ
event_line number SetUp = refusal_line number 0
event_line number End = []
event_line number (EndRefused refusal) = refusal_line number (refusal_number refusal)
event_line number (Answered said answer) = answer_line number answer

unfoldable pub lines_of : ℕ → List Event → List (List ℕ)
lines_of record-number [] = []
lines_of record-number (event ∷ more) = event_line record-number event ∷ lines_of (record-number + 1) more

-- the lines of a paper, with the words that it was lent
unfoldable pub sitting_lines : (words paper : List ℕ) → List (List ℕ)
sitting_lines words paper = lines_of 0 (events_of words paper)
