use borrow.Author.Tests.{eq-eqb, ne_eqb}
use borrow.Author.Rules.{rules}
use Rattle.element.specs.Element.{counts_written}
use Rattle.element.proofs.counts_written.Goals as goal

pub returns-then-value-eq2 : goal.returns-then-value-eq2
unfolding counts_written
returns-then-value-eq2 c = simp (eq-eqb _ 2 c.if-value-eq2.true)

pub returns : goal.returns
unfolding counts_written
returns c = simp (ne_eqb _ 2 c.if-value-eq2.false)
