use borrow.Author.Rules.{rules}
use Rattle.decision.specs.Decision.{settled}
use Rattle.decision.proofs.settle.Goals as goal

pub returns : goal.returns
unfolding settled
returns c = simp (c.send-iad.ensures, c.apply-values.ensures)
