-- No room; a card that is set up, and any other event.
use borrow.Author.Rules.{rules}
use mathlib.Core.Path.{sym, ◌∙◌}
use Rattle.record_lines.proofs.Stores.{set_up_lem, not_set_up, fits, enough, place, stay}
use Rattle.record_lines.proofs.put_set_up.Goals as goal

pub returns-then-not-has_room : goal.returns-then-not-has_room
returns-then-not-has_room c =
    let asked = c in
    let a = asked.args in
    stay a.room.now _ a.at (sym asked.has_room.ensures ∙ c.if-not-has_room.true)

pub put_event-end-requires : goal.put_event-end-requires
put_event-end-requires c =
    let tested = c in
    let asked = tested in
    let a = asked.args in
    let room_for = enough a.room.now a.at asked.has_room.ensures tested.if-not-has_room.false in
    search rules

pub put_shown-requires : goal.put_shown-requires
put_shown-requires c =
    let told = c in
    let line = told in
    let tested = line in
    let asked = tested in
    let a = asked.args in
    let room_for = enough a.room.now a.at asked.has_room.ensures tested.if-not-has_room.false in
    search rules

pub returns-in-SetUp : goal.returns-in-SetUp
returns-in-SetUp c =
    let rooms = c in
    let told = rooms in
    let to-told = told in
    let line = to-told in
    let tested = line in
    let asked = tested in
    let a = asked.args in
    place (fits a.room.now a.at asked.has_room.ensures tested.if-not-has_room.false)
    (set_up_lem _ _ _ _ told.in-SetUp.is line.put_event-end.ensures rooms.put_shown.ensures)

pub returns : goal.returns
returns c =
    let line = c in
    let tested = line in
    let asked = tested in
    let a = asked.args in
    place (fits a.room.now a.at asked.has_room.ensures tested.if-not-has_room.false)
    (not_set_up _ _ _ _ c.in_default.not-SetUp line.put_event-end.ensures)
