use borrow.Author.Rules.{rules}
use Rattle.shape_seat.proofs.family_cells.Goals as goal

pub returns-in-Cpa : goal.returns-in-Cpa
returns-in-Cpa c = simp c.in-Cpa.is

pub returns-in-Cpace : goal.returns-in-Cpace
returns-in-Cpace c = simp c.in-Cpace.is
