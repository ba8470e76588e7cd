use borrow.Author.Rules.{rules}
use Rattle.cells.proofs.history_at.Goals as goal

pub returns : goal.returns
returns c =
    let s1 = c in
    simp (c.cell_behind-4.ensures, c.cell_behind-3.ensures, c.cell_behind-2.ensures, s1.cell_behind.ensures, s1.cell.ensures)
