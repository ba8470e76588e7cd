use mathlib.Core.Path.{sym, ◌∙◌}
use borrow.Author.Tests.{ne_eqb}
use borrow.Author.Rules.{rules}
use Rattle.shape_seat.proofs.span_at.Goals as goal

pub returns-then-cell-ne1 : goal.returns-then-cell-ne1
returns-then-cell-ne1 c = rw (← c.cell.ensures, ne_eqb _ _ c.if-cell-ne1.true)

pub returns : goal.returns
returns c =
    let tested = c in
    let one = sym tested.cell.ensures ∙ tested.if-cell-ne1.false in
    simp (one, c.cell-3.ensures, c.cell-2.ensures)
