use borrow.Author.Rules.{rules}
use Rattle.element.specs.Element.{limits_written}
use Rattle.element.proofs.limits_written.Goals as goal

pub returns-then-value-are_pairs : goal.returns-then-value-are_pairs
unfolding limits_written
returns-then-value-are_pairs c =
    simp (
      rw (c.are_pairs-2.ensures, c.are_pairs.ensures) at c.if-value-are_pairs.true,
      c.pairs_value-then-value-are_pairs.ensures,
      c.pairs_value.ensures,
    )

pub returns : goal.returns
unfolding limits_written
returns c = simp (rw (c.are_pairs-2.ensures, c.are_pairs.ensures) at c.if-value-are_pairs.false)
