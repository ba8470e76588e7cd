use Rattle.std.proofs.Common.{arith}
use Rattle.std.proofs.lemmas.Grind.{common_steps}
use Rattle.phase_seat.specs.Phases.{phase_at}
use mathlib.Core.Path.{sym, ◌∙◌}
use Rattle.phase_seat.proofs.phase_at.Goals as goal

pub returns-in-0 : goal.returns-in-0
unfolding phase_at
returns-in-0 c = rw (← c.cell.ensures, c.in-0.is)

pub returns-in-1 : goal.returns-in-1
unfolding phase_at
returns-in-1 c =
    let one = sym c.cell.ensures ∙ c.in-1.is in
    simp (one, c.place_of.ensures, c.cell-in-1.ensures)

pub returns-in_default : goal.returns-in_default
unfolding phase_at
returns-in_default c = grind (arith, common_steps)
