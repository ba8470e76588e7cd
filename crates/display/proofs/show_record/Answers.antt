use borrow.Author.Rules.{rules}
use mathlib.Core.Path.{refl, sym, ◌∙◌}
use Rattle.display.specs.Shown.{still_shown}
use Rattle.display.proofs.Shows.{no_record, recorded}
use Rattle.display.proofs.show_record.Goals as goal

pub returns-then-not-has_room : goal.returns-then-not-has_room
unfolding still_shown
returns-then-not-has_room c =
    let a = c.args in
    let full = sym c.has_room.ensures ∙ c.if-not-has_room.true in
    no_record a.showing a.words.now a.rooms.now a.shown a.paper.now a.room.now a.to full refl

pub returns : goal.returns
returns c =
    let a = c.args in
    let fits = sym c.has_room.ensures ∙ c.if-not-has_room.false in
    let taken = c.take-taken.ensures in
    recorded a.showing a.words.now a.rooms.now a.shown a.paper.now a.room.now a.to fits taken.0 taken.1 taken.2 taken.3
    c.put_record-end.ensures.0 c.put_record-end.ensures.1
    c.show_behind.ensures
