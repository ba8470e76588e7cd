use borrow.Author.Tests.{eq-eqb, ne_eqb}
use Rattle.ring.specs.Ring.{added}
use Rattle.ring.proofs.add.Goals as goal

pub returns-then-slots-eq0 : goal.returns-then-slots-eq0
unfolding added
returns-then-slots-eq0 c = rw (← c.slots_of-slots.ensures.0, eq-eqb _ _ c.if-slots-eq0.true)

pub returns : goal.returns
unfolding added
returns c =
    let other = c in
    rw (← other.slots_of-slots.ensures.0, ne_eqb _ _ other.if-slots-eq0.false) c.add_in.ensures
