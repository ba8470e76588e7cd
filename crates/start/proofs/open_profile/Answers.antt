use borrow.Author.Tests.{eq-eqb, ne_eqb}
use mathlib.Core.Path.{sym, ◌∙◌}
use Rattle.start.specs.Start.{opening_step}
use Rattle.start.proofs.open_profile.Goals as goal

pub returns-in_default : goal.returns-in_default
unfolding opening_step
returns-in_default c = simp (sym c.find_profile.ensures ∙ c.in_default.is, c.refuse.ensures)

pub returns-then-state-eq65535 : goal.returns-then-state-eq65535
unfolding opening_step
returns-then-state-eq65535 c =
    let tested = c in
    let found = tested in
    let is = sym found.find_profile.ensures ∙ found.in-Some.is in
    simp (is, eq-eqb _ _ tested.if-state-eq65535.true, c.refuse-then-state-eq65535.ensures)

pub returns : goal.returns
unfolding opening_step
returns c =
    let kept = c in
    let tested = kept in
    let found = tested in
    let is = sym found.find_profile.ensures ∙ found.in-Some.is in
    simp (is, ne_eqb _ _ tested.if-state-eq65535.false, c.started-scripts.ensures)
