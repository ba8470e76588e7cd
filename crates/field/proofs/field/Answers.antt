use borrow.Author.Tests.{eq-eqb, ne_eqb}
use Rattle.field.specs.Field.{field_of, field_place}
use Rattle.field.proofs.field.Goals as goal

pub returns-then-source-eq0 : goal.returns-then-source-eq0
unfolding field_of field_place
returns-then-source-eq0 c = rw (eq-eqb _ _ c.if-source-eq0.true) c.stretch.ensures

pub returns-else-source-eq0 : goal.returns-else-source-eq0
unfolding field_of field_place
returns-else-source-eq0 c = rw (ne_eqb _ _ c.if-source-eq0.false) c.stretch-else-source-eq0.ensures
