use borrow.Author.Rules.{rules}
use Rattle.setup.proofs.is_accepted.Goals as goal

pub returns : goal.returns
returns c = simp (c.is_family.ensures, c.are_cycles.ensures, c.is_setup.ensures)
