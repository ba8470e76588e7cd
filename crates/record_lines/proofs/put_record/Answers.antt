-- No room; a paper's end, and any other event.
use borrow.Author.Rules.{rules}
use mathlib.Core.Path.{sym, ◌∙◌}
use Rattle.record_lines.proofs.Stores.{at-end, recorded, fits, enough, place, stay}
use Rattle.record_lines.proofs.put_record.Goals as goal

pub returns-then-not-has_room : goal.returns-then-not-has_room
returns-then-not-has_room c =
    let asked = c in
    let a = asked.args in
    stay a.room.now _ a.at (sym asked.has_room.ensures ∙ c.if-not-has_room.true)

pub put_event-end-requires : goal.put_event-end-requires
put_event-end-requires c =
    let tested = c in
    let asked = tested in
    let a = asked.args in
    let room_for = enough a.room.now a.at asked.has_room.ensures tested.if-not-has_room.false in
    search rules

pub returns-in-End : goal.returns-in-End
returns-in-End c =
    let told = c in
    let line = told in
    let tested = line in
    let asked = tested in
    let a = asked.args in
    place (fits a.room.now a.at asked.has_room.ensures tested.if-not-has_room.false)
    (at-end _ _ _ _ _ c.in-End.is line.put_event-end.ensures)

pub put_shown-requires : goal.put_shown-requires
put_shown-requires c =
    let other = c in
    let line = other in
    let tested = line in
    let asked = tested in
    let a = asked.args in
    let room_for = enough a.room.now a.at asked.has_room.ensures tested.if-not-has_room.false in
    search rules

pub returns : goal.returns
returns c =
    let rooms = c in
    let other = rooms in
    let line = other in
    let tested = line in
    let asked = tested in
    let a = asked.args in
    place (fits a.room.now a.at asked.has_room.ensures tested.if-not-has_room.false)
    (recorded _ _ _ _ _ other.in_default.not-End line.put_event-end.ensures rooms.put_shown.ensures)
