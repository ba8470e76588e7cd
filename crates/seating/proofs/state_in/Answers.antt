use Rattle.seating.specs.States.{state_in}
use Rattle.seating.proofs.state_in.Goals as goal

pub returns : goal.returns
unfolding state_in
returns c =
    simp (
      c.cell-2.ensures,
      c.history_at.ensures,
      c.date_at.ensures,
      c.cell.ensures,
      c.phase_at.ensures,
      c.values_at.ensures,
    )
