use borrow.Author.Rules.{rules}
use Rattle.second.specs.Second.{failed_performed}
use Rattle.second.proofs.failed.Goals as goal

pub returns : goal.returns
unfolding failed_performed
returns c = simp (c.close.ensures, c.with_failed.ensures)
