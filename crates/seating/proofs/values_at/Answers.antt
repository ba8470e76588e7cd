use Rattle.seating.specs.States.{values_at}
use Rattle.seating.proofs.values_at.Goals as goal

pub returns : goal.returns
unfolding values_at
returns c =
    simp (
      c.cell-10.ensures,
      c.cell-9.ensures,
      c.cell-8.ensures,
      c.cell-7.ensures,
      c.cell-6.ensures,
      c.cell-5.ensures,
      c.cell-4.ensures,
      c.cell-3.ensures,
      c.cell-2.ensures,
      c.cell.ensures,
    )
