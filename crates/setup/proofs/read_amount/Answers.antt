use borrow.Author.Rules.{rules}
use Rattle.setup.proofs.read_amount.Goals as goal

pub returns : goal.returns
returns c = simp c.u64_at.ensures
