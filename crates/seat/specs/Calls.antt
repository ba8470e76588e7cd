-- What the three calls return, and what they leave in the lent cells and bytes (request Eleven). A seat of fewer cells than a card takes is refusal 7
-- before all else. Where a call returns 0 its card is stored; else nothing changes.
use Rattle.std.specs.Prelude.{ℕ, cond, List, eqb, Err, Ok, Result}
use Rattle.refusal.specs.declared.Refusal.TheVariants.{RoomTooSmall}
use Rattle.refusal.specs.Refusal.{refusal_number}
use Rattle.rules.specs.Rules.{rules_of, blank_words}
use Rattle.rooms.specs.Rooms.{no_rooms, room_left as stored_room, room_number as stored_number}
use Rattle.records.specs.declared.Event.{Event}
use Rattle.records.specs.declared.Event.TheVariants.{SetUp, End, Refused, Answered}
use Rattle.opening.specs.Opening.{begun_of, words_begun}
use Rattle.keeper.specs.Keeper.{rooms_begun}
use Rattle.runs.specs.Runs as runs
use Rattle.card_cells.specs.Seat.{Card, card_of, is_short, stored_in, card_in}
use Rattle.money.specs.declared.AccumulatorAmount.{AccumulatorAmount}
use Rattle.refusal.specs.declared.Refusal.{Refusal}

abbrev pub seat_number : (cells : List ℕ) → (other : ℕ) → ℕ
seat_number cells other = cond (is_short cells) (refusal_number RoomTooSmall) other

-- OPENING: the card that a paper's set-up makes, in words and rooms that held nothing
unfoldable pub fresh_card : (paper : List ℕ) → Card
fresh_card paper = card_of (words_begun blank_words paper) (rooms_begun blank_words no_rooms paper) (begun_of paper).shape (begun_of paper).state

-- 0 where the set-up was taken
abbrev pub event_number : Event → ℕ
event_number SetUp = 0
event_number End = 0
event_number (Refused refusal) = refusal_number refusal
event_number (Answered said answer) = 0

unfoldable pub open_number : (cells paper : List ℕ) → ℕ
open_number cells paper = seat_number cells (event_number (begun_of paper).event)

unfoldable pub open_cells : (cells paper : List ℕ) → List ℕ
open_cells cells paper = cond (eqb (open_number cells paper) 0) (stored_in cells (fresh_card paper)) cells

-- A RUN on the seated card
abbrev pub run_card : Card → runs.Card
run_card card = runs.card_of card.words card.rooms card.state

unfoldable pub card_behind : (paper : List ℕ) → Card → (records : List ℕ) (room : ℕ) → Card
card_behind paper card records room =
    let after = runs.card_run card.shape paper (run_card card) records room in
    card_of after.words after.rooms card.shape after.state

abbrev pub ran_number : Result ℕ Refusal → ℕ
ran_number (Ok answers) = 0
ran_number (Err refusal) = refusal_number refusal

abbrev pub ruling : (cells records : List ℕ) (room : ℕ) → Result ℕ Refusal
ruling cells records room = runs.ruled_run (card_in cells).shape records room

unfoldable pub run_number : (cells records : List ℕ) (room : ℕ) → ℕ
run_number cells records room = seat_number cells (ran_number (ruling cells records room))

unfoldable pub run_cells : (paper cells records : List ℕ) (room : ℕ) → List ℕ
run_cells paper cells records room =
    cond (eqb (run_number cells records room) 0) (stored_in cells (card_behind paper (card_in cells) records room)) cells

unfoldable pub run_room : (paper cells records room : List ℕ) → List ℕ
run_room paper cells records room =
    cond (is_short cells) room (runs.room_run (card_in cells).shape paper (run_card (card_in cells)) records room)

-- THE ROOM LEFT of an accumulator of a profile, as the seated card stores it
abbrev pub asked : (cells : List ℕ) (profile accumulator : ℕ) → Result AccumulatorAmount Refusal
asked cells profile accumulator = stored_room (rules_of (card_in cells).words) (card_in cells).rooms profile accumulator

abbrev pub left_or : (before : ℕ) → Result AccumulatorAmount Refusal → ℕ
left_or before (Ok amount) = amount.0
left_or before (Err refusal) = before

unfoldable pub room_number : (cells : List ℕ) (profile accumulator : ℕ) → ℕ
room_number cells profile accumulator = seat_number cells (stored_number (asked cells profile accumulator))

unfoldable pub room_left : (cells : List ℕ) (profile accumulator before : ℕ) → ℕ
room_left cells profile accumulator before = cond (is_short cells) before (left_or before (asked cells profile accumulator))
