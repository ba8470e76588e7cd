use borrow.Author.Tests.{lt-ltb, le-ltb}
use Rattle.start.specs.Start.{opening_step, start_step}
use Rattle.start.proofs.answer_start.Goals as goal

pub returns-then-start-gt1 : goal.returns-then-start-gt1
unfolding start_step
returns-then-start-gt1 c = simp (lt-ltb _ _ c.if-start-gt1.true, c.refuse.ensures)

pub returns-in-None : goal.returns-in-None
unfolding start_step
returns-in-None c =
    let told = c in
    simp (le-ltb _ _ told.if-start-gt1.false, told.in-None.is, c.refuse-in-None.ensures)

pub returns-in-Some : goal.returns-in-Some
unfolding start_step opening_step
returns-in-Some c =
    let told = c in
    simp (le-ltb _ _ told.if-start-gt1.false, told.in-Some.is, c.open_profile.ensures)
