use borrow.Author.Tests.{eq-eqb, ne_eqb}
use Rattle.log_tail.specs.LogTail.{reaches_past}
use Rattle.log_tail.proofs.reaches_past.Goals as goal

pub returns-then-entry-eq0 : goal.returns-then-entry-eq0
unfolding reaches_past
returns-then-entry-eq0 c = simp (eq-eqb _ _ c.if-entry-eq0.true)

pub returns : goal.returns
unfolding reaches_past
returns c = simp (ne_eqb _ _ c.if-entry-eq0.false, c.data_length.ensures)
