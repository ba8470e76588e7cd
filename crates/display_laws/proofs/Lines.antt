-- Without the rooms what is shown is the sitting's lines. Assumes nothing.
use mathlib.Core.Path.{◌≡◌, refl, ap}
use mathlib.Core.List.{List, [], ◌∷◌, map}
use Prim.Native.Nat.{ℕ, zero, suc, ◌+◌}
use lib.ListN.{length}
use Rattle.rules.specs.Rules.{Rules, rules_of}
use Rattle.shape.specs.declared.Shape.{Shape}
use Rattle.script.specs.Script.{rules_after}
use Rattle.state.specs.declared.State.{State}
use Rattle.records.specs.declared.Event.{Event}
use Rattle.records.specs.declared.Event.TheVariants.{SetUp, End, Refused, Answered}
use Rattle.conversation.specs.Conversation.{taken_of, taken_writes}
use Rattle.opening.specs.Opening.{begun_of, words_begun}
use Rattle.conversation.specs.Events.{following, events_from, events_of}
use Rattle.keeper.specs.Keeper.{rooms_taken, rooms_begun}
use Rattle.lines.specs.Sitting.{event_line, lines_of, sitting_lines}
use Rattle.record_lines.specs.declared.Showing.TheVariants.{Rooms}
use Rattle.room_lines.specs.RoomLines.{room_lines}
use Rattle.record_lines.specs.RecordLines.{set_up_lines}
use Rattle.display_laws.specs.Display.{Entry, entered, entries_from, entries_of}

abbrev lines_in : List Entry → List (List ℕ)
lines_in entries = map (λ (e : Entry). e.line) entries

one : (event : Event) (number : ℕ) (rooms : List ℕ) (more : List Entry) (events : List Event) → lines_in more ≡ lines_of (number + 1) events
    → lines_in (entered event (record { line = event_line number event; rooms = rooms }) more) ≡ lines_of number (following event events)
unfolding lines_of
one SetUp number rooms more events e = ap (λ l. event_line number SetUp ∷ l) e
one End number rooms more events e = refl
one (Refused refusal) number rooms more events e = refl
one (Answered said answer) number rooms more events e = ap (λ l. event_line number (Answered said answer) ∷ l) e

module _ (shape : Shape) (paper : List ℕ) where
  from : (n : ℕ) (rules : Rules) (rooms : List ℕ) (state : State) (at number : ℕ)
      → lines_in (entries_from n rules rooms shape state paper at number) ≡ lines_of number (events_from n rules shape state paper at)
  unfolding entries_from events_from lines_of
  from zero rules rooms state at number = refl
  from (suc n) rules rooms state at number =
      let taken = taken_of rules shape state paper at in
      let then = rules_after rules (taken_writes shape state paper at) in
      let left = rooms_taken rules shape state paper at rooms in
      one taken.event number (room_lines then left) (entries_from n then left shape taken.state paper taken.at (number + 1))
      (events_from n then shape taken.state paper taken.at)
      (from n then left taken.state taken.at (number + 1))

pub lines_same : (words rooms paper : List ℕ) → map (λ (e : Entry). e.line) (entries_of words rooms paper) ≡ sitting_lines words paper
unfolding entries_of sitting_lines events_of
lines_same words rooms paper =
    let begun = begun_of paper in
    let then = rules_of (words_begun words paper) in
    let left = rooms_begun words rooms paper in
    one begun.event 0 (set_up_lines Rooms then left begun.event) (entries_from (length paper) then left begun.shape begun.state paper begun.at 1)
    (events_from (length paper) then begun.shape begun.state paper begun.at)
    (from begun.shape paper (length paper) then left begun.state begun.at 1)
