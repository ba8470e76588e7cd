use borrow.Author.Rules.{rules}
use Rattle.cells.proofs.date_at.Goals as goal

pub returns : goal.returns
returns c = simp (c.cell_behind-2.ensures, c.cell_behind.ensures, c.cell.ensures)
