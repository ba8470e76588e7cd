use Rattle.seating.specs.States.{mark_cells}
use native.Mathlib.Omega.{arith}
use Rattle.seating.proofs.mark_cells.Goals as goal

pub returns : goal.returns
unfolding mark_cells
returns c = (
  simp c.history_cells-history.ensures,
  record { atc = omega arith; last = record { year = omega arith; month = omega arith; day = omega arith }; scripts = omega arith },
)
