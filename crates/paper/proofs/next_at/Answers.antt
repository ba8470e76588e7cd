-- The number that is read is the record's length, so the branches are those of the definition.
use borrow.Author.Tests.{le-leb, lt-leb}
use Rattle.paper.specs.Paper.{next_at}
use Rattle.paper.proofs.next_at.Goals as goal

pub returns-then-s-at : goal.returns-then-s-at
unfolding next_at
returns-then-s-at c = simp (le-leb _ _ c.if-s-at.true)

pub returns-then-length-s : goal.returns-then-length-s
unfolding next_at
returns-then-length-s c = rw (← c.u16_at-length.ensures) (simp (lt-leb _ _ c.if-s-at.false, c.if-length-s.true))

pub returns : goal.returns
unfolding next_at
returns c =
    rw (← c.u16_at-length.ensures, ← c.byte_at.ensures)
    (simp (lt-leb _ _ c.if-s-at.false, c.if-length-s.false))
