use borrow.Author.Rules.{rules}
use Rattle.shape_seat.proofs.span_cells.Goals as goal

pub returns-in-None : goal.returns-in-None
returns-in-None c = simp c.in-None.is

pub returns-in-Some : goal.returns-in-Some
returns-in-Some c = simp c.in-Some.is
