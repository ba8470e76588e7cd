use borrow.Author.Tests.{le-leb, lt-leb}
use Rattle.rate.proofs.shift_at.Goals as goal

pub returns-then-place-le9 : goal.returns-then-place-le9
returns-then-place-le9 c = simp (le-leb _ _ c.if-place-le9.true)

pub returns-else-place-le9 : goal.returns-else-place-le9
returns-else-place-le9 c = simp (lt-leb _ _ c.if-place-le9.false)
