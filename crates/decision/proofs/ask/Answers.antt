use borrow.Author.Rules.{rules}
use Rattle.decision.specs.Decision.{asked}
use Rattle.decision.proofs.ask.Goals as goal

pub returns : goal.returns
unfolding asked
returns c = simp (c.with_uncompleted.ensures, c.send-iad.ensures)
