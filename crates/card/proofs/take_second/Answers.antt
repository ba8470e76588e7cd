use borrow.Author.Rules.{rules}
use borrow.Author.Tests.{lt-ltb, le-ltb}
use Rattle.card.specs.Card.{second_taken}
use Rattle.card.proofs.take_second.Goals as goal

pub returns-then-second-gt1 : goal.returns-then-second-gt1
unfolding second_taken
returns-then-second-gt1 c = simp (lt-ltb _ _ c.if-second-gt1.true, c.refuse.ensures)

pub returns-then-second-gt2 : goal.returns-then-second-gt2
unfolding second_taken
returns-then-second-gt2 c = simp (le-ltb _ _ c.if-second-gt1.false, lt-ltb _ _ c.if-second-gt2.true, c.refuse-then-second-gt2.ensures)

pub returns : goal.returns
unfolding second_taken
returns c = simp (le-ltb _ _ c.if-second-gt1.false, le-ltb _ _ c.if-second-gt2.false, c.perform.ensures)
