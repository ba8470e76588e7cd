use borrow.Author.Rules.{rules}
use borrow.Author.Tests.{eq-eqb, ne_eqb}
use Rattle.load.specs.Load.{limit_in}
use Rattle.load.proofs.limit.Goals as goal

pub returns-then-width-eq-COUNTER_LIMIT : goal.returns-then-width-eq-COUNTER_LIMIT
unfolding limit_in
returns-then-width-eq-COUNTER_LIMIT c = simp (eq-eqb _ _ c.if-width-eq-COUNTER_LIMIT.true, c.byte_at.ensures)

pub returns-else-width-eq-COUNTER_LIMIT : goal.returns-else-width-eq-COUNTER_LIMIT
unfolding limit_in
returns-else-width-eq-COUNTER_LIMIT c = simp (ne_eqb _ _ c.if-width-eq-COUNTER_LIMIT.false, c.u64_at.ensures)
