-- Below version 07 nothing is put.
use borrow.Author.Rules.{rules}
use borrow.Author.Tests.{lt-ltb, le-ltb}
use Rattle.log_text.proofs.Stores.{nothing, placed_length}
use Rattle.log_behind.specs.LogBehind.{log_behind}
use Rattle.log_behind.proofs.put_log.Goals as goal

pub returns-then-byte_at-lt-LOG : goal.returns-then-byte_at-lt-LOG
unfolding log_behind
returns-then-byte_at-lt-LOG c =
    let until-a = c in
    let a = until-a.args in
    rw (← c.byte_at.ensures, lt-ltb _ _ c.if-byte_at-lt-LOG.true) (nothing a.room.now a.end)

pub shape_of-room : goal.shape_of-room
shape_of-room c = rw c.put_behind.ensures.1 (placed_length _ _ _)

pub returns : goal.returns
unfolding log_behind
returns c =
    let put = c in
    let until-begin = put in
    let begin = until-begin in
    let blank = begin in
    let tested = blank in
    rw (← tested.byte_at.ensures, le-ltb _ _ tested.if-byte_at-lt-LOG.false, ← begin.begin-begun.ensures.0, ← blank.blank-words.ensures, ← begin.begin-begun.ensures.1)
    put.put_behind.ensures
