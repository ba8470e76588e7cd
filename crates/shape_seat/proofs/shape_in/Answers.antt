use Rattle.shape_seat.specs.Shapes.{shape_in}
use borrow.Author.Rules.{rules}
use Rattle.shape_seat.proofs.shape_in.Goals as goal

pub returns : goal.returns
unfolding shape_in
returns c =
    let family = c in
    let file = family in
    simp (
      c.cell-4.ensures,
      c.span_at-2.ensures,
      c.cell-3.ensures,
      family.family_at.ensures,
      family.span_at.ensures,
      family.cell-2.ensures,
      file.selecting_at.ensures,
      file.cell.ensures,
    )
