use Rattle.phase_seat.specs.Phases.{purchase_at}
use native.Mathlib.Omega.{arith}
use Rattle.phase_seat.proofs.purchase_at.Goals as goal

pub timing_at-requires : goal.timing_at-requires
timing_at-requires c = omega arith

pub returns : goal.returns
unfolding purchase_at
returns c =
    simp (
      c.cell-4.ensures,
      c.cvm_of.ensures,
      c.cell-3.ensures,
      c.timing_at.ensures,
      c.cell-2.ensures,
      c.cell.ensures,
    )
