use Rattle.phase_seat.specs.Phases.{phase_cells}
use mathlib.Core.Path.{sym, ap, ◌∙◌}
use Rattle.phase_seat.proofs.phase_cells.Goals as goal

pub returns-in-Idle : goal.returns-in-Idle
unfolding phase_cells
returns-in-Idle c = (simp c.in-Idle.is, simp c.in-Idle.is tt)

pub returns-in-Opened : goal.returns-in-Opened
unfolding phase_cells
returns-in-Opened c =
    let is = c.in-Opened.is in
    (simp (is, c.place_number.ensures), simp is tt)

pub returns-in-Asked : goal.returns-in-Asked
returns-in-Asked c =
    let is = c.in-Asked.is in
    (c.asked_cells.ensures.0 ∙ sym (ap phase_cells is), simp is c.asked_cells.ensures.1)
