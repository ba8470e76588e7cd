-- A cryptogram at First, at Second, or at neither.
use Rattle.journal.specs.Journal.{watched}
use Rattle.watching.proofs.watch.Goals as goal

pub returns-in-First : goal.returns-in-First
unfolding watched
returns-in-First c =
    let closed = c in
    let opened = closed in
    let said = opened in
    simp said.in-First.is (simp (closed.closed_by-closed.ensures, opened.open_first.ensures, said.in-First.is) at c.note.ensures)

pub returns-in-Second : goal.returns-in-Second
unfolding watched
returns-in-Second c =
    let closed = c in
    let first = closed in
    let said = first in
    simp said.in-Second.is (simp (closed.closed_by-closed-in-Second.ensures, first.first_place.ensures, said.in-Second.is) at c.note-in-Second.ensures)

pub returns-in-Other : goal.returns-in-Other
unfolding watched
returns-in-Other c = simp c.in-Other.is
