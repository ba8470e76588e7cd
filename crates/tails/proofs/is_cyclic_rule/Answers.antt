use Rattle.tails.specs.Tails.{is_cyclic_rule}
use borrow.Author.Rules.{rules}
use Rattle.tails.proofs.is_cyclic_rule.Goals as goal

pub returns : goal.returns
unfolding is_cyclic_rule
returns c = simp (c.u64_at.ensures, c.byte_at.ensures)
