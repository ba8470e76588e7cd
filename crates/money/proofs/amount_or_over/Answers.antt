use borrow.Author.Tests.{lt-ltb, le-ltb}
use Rattle.money.proofs.amount_or_over.Goals as goal

pub returns-then-n-gt-MAX : goal.returns-then-n-gt-MAX
returns-then-n-gt-MAX c = simp (lt-ltb _ _ c.if-n-gt-MAX.true)

pub returns : goal.returns
returns c = simp (le-ltb _ _ c.if-n-gt-MAX.false)
