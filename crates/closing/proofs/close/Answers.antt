use borrow.Author.Rules.{rules}
use Rattle.closing.specs.Closing.{closed}
use Rattle.closing.proofs.close.Goals as goal

pub returns : goal.returns
unfolding closed
returns c =
    simp (c.closing_kind-kind.ensures, c.send-iad.ensures, c.verify-cvr.ensures, c.later_kind.ensures)
