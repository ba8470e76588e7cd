use Rattle.phase_seat.proofs.timing_at.Goals as goal

pub returns-in-0 : goal.returns-in-0
returns-in-0 c = rw (← c.cell.ensures, c.in-0.is)

pub returns-in-1 : goal.returns-in-1
returns-in-1 c = rw (← c.cell.ensures, c.in-1.is)
