-- The entries of a paper with the room left worked out by the rules and the values at each, whatever is stored.
use Rattle.std.specs.Prelude.{List, [], ℕ, zero, suc, ◌+◌, length}
use Rattle.rules.specs.Rules.{Rules, rules_of}
use Rattle.rooms.specs.Rooms.{rooms_of}
use Rattle.shape.specs.declared.Shape.{Shape}
use Rattle.script.specs.Script.{rules_after}
use Rattle.state.specs.declared.State.{State}
use Rattle.conversation.specs.Conversation.{taken_of, taken_writes}
use Rattle.opening.specs.Opening.{begun_of, words_begun}
use Rattle.lines.specs.Sitting.{event_line}
use Rattle.record_lines.specs.declared.Showing.TheVariants.{Rooms}
use Rattle.room_lines.specs.RoomLines.{room_lines}
use Rattle.record_lines.specs.RecordLines.{set_up_lines}
use Rattle.display_laws.specs.Display.{Entry, entered}

unfoldable pub recomputed_from : ℕ → Rules → Shape → State → (paper : List ℕ) (at record-number : ℕ) → List Entry
recomputed_from zero rules shape state paper at record-number = []
recomputed_from (suc n) rules shape state paper at record-number =
    let taken = taken_of rules shape state paper at in
    let then = rules_after rules (taken_writes shape state paper at) in
    entered taken.event
    (record { line = event_line record-number taken.event; rooms = room_lines then (rooms_of then taken.state.values) })
    (recomputed_from n then shape taken.state paper taken.at (record-number + 1))

unfoldable pub recomputed_of : (words paper : List ℕ) → List Entry
recomputed_of words paper =
    let begun = begun_of paper in
    let then = rules_of (words_begun words paper) in
    entered begun.event
    (record { line = event_line 0 begun.event; rooms = set_up_lines Rooms then (rooms_of then begun.state.values) begun.event })
    (recomputed_from (length paper) then begun.shape begun.state paper begun.at 1)
