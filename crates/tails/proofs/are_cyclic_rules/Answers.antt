use Rattle.tails.specs.Tails.{are_cyclic_rules}
use borrow.Author.Rules.{rules}
use Rattle.tails.proofs.are_cyclic_rules.Goals as goal

pub returns : goal.returns
unfolding are_cyclic_rules
returns c = simp (c.is_cyclic_rule-2.ensures, c.is_cyclic_rule.ensures)
