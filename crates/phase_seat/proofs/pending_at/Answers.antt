use Rattle.phase_seat.specs.Phases.{pending_at}
use Rattle.phase_seat.proofs.pending_at.Goals as goal

pub returns : goal.returns
unfolding pending_at
returns c =
    simp (
      c.cell-3.ensures,
      c.history_at.ensures,
      c.place_of.ensures,
      c.cell-2.ensures,
      c.cell.ensures,
      c.purchase_at.ensures,
    )
