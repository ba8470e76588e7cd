use borrow.Author.Rules.{rules}
use Rattle.element.specs.Element.{value_written}
use Rattle.element.proofs.value_written.Goals as goal

pub returns-then-value-are_pairs : goal.returns-then-value-are_pairs
unfolding value_written
returns-then-value-are_pairs c = simp (rw c.are_pairs.ensures at c.if-value-are_pairs.true, c.pairs_value.ensures)

pub returns : goal.returns
unfolding value_written
returns c = simp (rw c.are_pairs.ensures at c.if-value-are_pairs.false)
