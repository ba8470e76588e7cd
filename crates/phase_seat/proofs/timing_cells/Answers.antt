use native.Mathlib.Omega.{arith}
use Rattle.phase_seat.proofs.timing_cells.Goals as goal

pub returns-in-Undated : goal.returns-in-Undated
returns-in-Undated c = (simp c.in-Undated.is, simp c.in-Undated.is tt)

pub returns-in-InOrder : goal.returns-in-InOrder
returns-in-InOrder c = (simp c.in-InOrder.is, simp c.in-InOrder.is tt)

pub returns-in-DateError : goal.returns-in-DateError
returns-in-DateError c =
    let is = c.in-DateError.is in
    (simp is, simp is (record { year = omega arith; month = omega arith; day = omega arith }))
