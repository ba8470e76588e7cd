use native.Mathlib.Omega.{arith}
use borrow.Author.Rules.{rules}
use Rattle.shape_seat.proofs.selecting_cells.Goals as goal

pub returns-in-None : goal.returns-in-None
returns-in-None c = (simp c.in-None.is, simp c.in-None.is tt)

pub returns-in-Some : goal.returns-in-Some
returns-in-Some c =
    let is = c.in-Some.is in
    (simp is, simp is (omega arith))
