-- What is stored and shown is the recomputed figure, at every record of every paper. Assumes nothing.
use mathlib.Core.Path.{◌≡◌, refl, ap₂}
use mathlib.Core.List.{List}
use Prim.Native.Nat.{ℕ, zero, suc, ◌+◌}
use lib.ListN.{length}
use Rattle.rules.specs.Rules.{Rules, rules_of}
use Rattle.rooms.specs.Rooms.{rooms_of, cell_count}
use Rattle.shape.specs.declared.Shape.{Shape}
use Rattle.script.specs.Script.{rules_after}
use Rattle.state.specs.declared.State.{State}
use Rattle.records.specs.declared.Event.{Event}
use Rattle.records.specs.declared.Event.TheVariants.{SetUp, Refused}
use Rattle.conversation.specs.Conversation.{taken_of, taken_writes}
use Rattle.opening.specs.Opening.{begun_of, words_begun}
use Rattle.keeper.specs.Keeper.{rooms_taken, rooms_begun}
use Rattle.room_laws.proofs.Taken.{begun_right, taken_right}
use Rattle.lines.specs.Sitting.{event_line}
use Rattle.transcript.proofs.Steps.{Beginning, accepted, refused, begins}
use Rattle.record_lines.specs.declared.Showing.TheVariants.{Rooms}
use Rattle.room_lines.specs.RoomLines.{room_lines}
use Rattle.record_lines.specs.RecordLines.{set_up_lines}
use Rattle.display_laws.specs.Display.{Entry, entered, entries_from, entries_of}
use Rattle.display_laws.specs.Recomputed.{recomputed_from, recomputed_of}

module _ (shape : Shape) (paper : List ℕ) where
  from : (n : ℕ) (rules : Rules) (rooms : List ℕ) (state : State) (at number : ℕ) → rooms ≡ rooms_of rules state.values
      → entries_from n rules rooms shape state paper at number ≡ recomputed_from n rules shape state paper at number
  unfolding entries_from recomputed_from
  from zero rules rooms state at number h = refl
  from (suc n) rules rooms state at number h =
      let taken = taken_of rules shape state paper at in
      let then = rules_after rules (taken_writes shape state paper at) in
      let right = taken_right rules shape state paper at rooms h in
      ap₂ (λ r more. entered taken.event (record { line = event_line number taken.event; rooms = room_lines then r }) more) right
      (from n then (rooms_taken rules shape state paper at rooms) taken.state taken.at (number + 1) right)

pub recomputed : (words rooms paper : List ℕ) → length rooms ≡ cell_count → entries_of words rooms paper ≡ recomputed_of words paper
unfolding entries_of recomputed_of
recomputed words rooms paper size = by (begins paper) where
  by : Beginning paper (begun_of paper) → entries_of words rooms paper ≡ recomputed_of words paper
  by (accepted e o) =
      let begun = begun_of paper in
      let then = rules_of (words_begun words paper) in
      let right = begun_right words rooms paper size e in
      ap₂ (λ r more. entered begun.event (record { line = event_line 0 begun.event; rooms = set_up_lines Rooms then r begun.event }) more) right
      (from begun.shape paper (length paper) then (rooms_begun words rooms paper) begun.state begun.at 1 right)
  by (refused refusal e) = rw e
