use borrow.Author.Rules.{rules}
use mathlib.Core.Path.{sym, ◌∙◌}
use Rattle.display.proofs.Shows.{no_set_up, set_up_lem}
use Rattle.display.proofs.show_set_up.Goals as goal

pub returns-then-not-has_room : goal.returns-then-not-has_room
returns-then-not-has_room c =
    let a = c.args in
    let full = sym c.has_room.ensures ∙ c.if-not-has_room.true in
    no_set_up a.showing a.words.now a.rooms.now a.paper.now a.room.now a.to full c.show_nothing.ensures

pub returns : goal.returns
returns c =
    let a = c.args in
    let fits = sym c.has_room.ensures ∙ c.if-not-has_room.false in
    let read = c.begin-begun.ensures in
    set_up_lem a.showing a.words.now a.rooms.now a.paper.now a.room.now a.to fits read.0 read.1 read.2 c.put_set_up-end.ensures.0 c.put_set_up-end.ensures.1
    c.wanted.ensures
