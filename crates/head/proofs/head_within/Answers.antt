use borrow.Author.Tests.{lt-leb, le-leb}
use Rattle.head.proofs.head_within.Goals as goal

pub returns-then-s-size : goal.returns-then-s-size
returns-then-s-size c = simp (lt-leb _ _ c.if-s-size.true)

pub returns : goal.returns
returns c = simp (le-leb _ _ c.if-s-size.false)
