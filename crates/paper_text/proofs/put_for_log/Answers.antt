use borrow.Author.Tests.{lt-ltb, le-ltb}
use lib.Dec.{ltb}
use mathlib.Core.Path.{◌≡◌}
use mathlib.Core.Bool.{true, false}
use Rattle.wire.specs.Wire.{byte}
use Rattle.paper_text.proofs.Text.{none-stands, some-stands}
use Rattle.paper_text.proofs.put_for_log.Goals as goal

pub returns-then-byte_at-lt-LOG : goal.returns-then-byte_at-lt-LOG
returns-then-byte_at-lt-LOG c =
    let read = c in
    let a = read.args in
    let low : ltb (byte a.paper.now 0) 7 ≡ true = rw (← read.byte_at.ensures) (lt-ltb _ _ c.if-byte_at-lt-LOG.true) in
    none-stands a.paper.now a.room.now _ low

pub returns : goal.returns
returns c =
    let put = c in
    let blank = put in
    let tested = blank in
    let read = tested in
    let a = read.args in
    let high : ltb (byte a.paper.now 0) 7 ≡ false = rw (← read.byte_at.ensures) (le-ltb _ _ tested.if-byte_at-lt-LOG.false) in
    let e = put.put_parts.ensures in
    some-stands a.paper.now a.room.now high blank.blank-words.ensures e.0 e.1 e.3
