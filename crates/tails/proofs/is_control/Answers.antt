use borrow.Author.Rules.{rules}
use Rattle.tails.proofs.is_control.Goals as goal

pub returns : goal.returns
returns c = simp c.byte_at.ensures
