use borrow.Author.Tests.{eq-eqb, ne_eqb}
use Rattle.block.specs.Block.{slot_of}
use Rattle.block.proofs.slot_of.Goals as goal

pub returns-then-check-eq1 : goal.returns-then-check-eq1
unfolding slot_of
returns-then-check-eq1 c = simp (eq-eqb _ _ c.if-check-eq1.true)

pub returns-then-number-eq0 : goal.returns-then-number-eq0
unfolding slot_of
returns-then-number-eq0 c = simp (ne_eqb _ _ c.if-check-eq1.false, eq-eqb _ _ c.if-number-eq0.true)

pub returns : goal.returns
unfolding slot_of
returns c = simp (ne_eqb _ _ c.if-check-eq1.false, ne_eqb _ _ c.if-number-eq0.false)
