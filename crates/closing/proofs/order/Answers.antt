use borrow.Author.Rules.{rules}
use borrow.Author.Tests.{eq-eqb, ne_eqb}
use Rattle.closing.specs.Closing.{ordered}
use Rattle.closing.proofs.order.Goals as goal

pub returns-then-update-eq0 : goal.returns-then-update-eq0
unfolding ordered
returns-then-update-eq0 c = simp (eq-eqb _ _ c.if-update-eq0.true)

pub returns : goal.returns
unfolding ordered
returns c = simp (ne_eqb _ _ c.if-update-eq0.false, c.apply.ensures, c.change_ordered.ensures)
