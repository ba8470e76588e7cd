use mathlib.Core.List.{append_assoc}
use Rattle.phase_seat.specs.Phases.{purchase_cells, phase_cells, pending_cells}
use Rattle.phase_seat.proofs.Spread.{timing_spread}
use native.Mathlib.Omega.{arith}
use Rattle.phase_seat.proofs.asked_cells.Goals as goal

pub returns : goal.returns
unfolding phase_cells pending_cells purchase_cells
returns c =
    let a = c.args.pending in (
      simp (
        c.flag.ensures,
        c.cvm_number.ensures,
        c.place_number.ensures,
        c.history_cells-history.ensures,
        c.timing_cells-dates.ensures.0,
        timing_spread a.purchase.timing,
        append_assoc,
      ),
      record { currency = omega arith; timing = c.timing_cells-dates.ensures.1; limits = omega arith; scripts = omega arith },
    )
