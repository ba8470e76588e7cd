use borrow.Author.Tests.{lt-ltb, le-ltb}
use Rattle.log_text.proofs.Stores.{nothing, placed_length}
use Rattle.log_book.specs.Logbook.{shaped_behind}
use Rattle.log_book.proofs.put_behind.Goals as goal

pub returns-then-paper-start : goal.returns-then-paper-start
unfolding shaped_behind
returns-then-paper-start c =
    let a = c.args in
    rw (lt-ltb _ _ c.if-paper-start.true) (nothing a.room.now a.end)

pub returns : goal.returns
unfolding shaped_behind
returns c =
    let put = c in
    let filled = put in
    let behind = filled in
    let text = behind in
    let log = text in
    rw (le-ltb _ _ log.if-paper-start.false, ← log.log_of-log.ensures, ← text.tail_at.ensures.0, ← behind.behind-text.ensures.0, ← filled.ring_of-ring.ensures)
    put.put_log.ensures

pub shape_of-room : goal.shape_of-room
shape_of-room c = rw c.put_log.ensures.1 (placed_length _ _ _)
