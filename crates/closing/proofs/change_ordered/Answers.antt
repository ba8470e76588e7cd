use borrow.Author.Tests.{eq-eqb, ne_eqb}
use Rattle.closing.proofs.change_ordered.Goals as goal

pub returns-then-order-eq1 : goal.returns-then-order-eq1
returns-then-order-eq1 c = simp (eq-eqb _ _ c.if-order-eq1.true)

pub returns-then-order-eq2 : goal.returns-then-order-eq2
returns-then-order-eq2 c = simp (ne_eqb _ _ c.if-order-eq1.false, eq-eqb _ _ c.if-order-eq2.true)

pub returns : goal.returns
returns c = simp (ne_eqb _ _ c.if-order-eq1.false, ne_eqb _ _ c.if-order-eq2.false)
