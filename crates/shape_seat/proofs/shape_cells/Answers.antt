use mathlib.Core.List.{append_assoc}
use Prim.Native.Nat.{◌<◌}
use Rattle.shape_seat.specs.Shapes.{shape_cells}
use Rattle.shape_seat.proofs.Spread.{selecting_spread, span_spread, family_spread}
use native.Mathlib.Omega.{arith}
use borrow.Author.Rules.{rules}
use Rattle.shape_seat.proofs.shape_cells.Goals as goal

pub returns : goal.returns
unfolding shape_cells
returns c =
    let log = c in
    let dates = log in
    let file = dates in
    let a = file.args.shape in
    let unnamed : a.unnamed < 4294967296 = omega arith in (
      simp (
        c.flag.ensures,
        log.span_cells-log.ensures,
        dates.family_cells-controls.ensures,
        dates.span_cells-dates.ensures,
        file.selecting_cells-file.ensures.0,
        selecting_spread a.selecting,
        span_spread a.dating,
        family_spread a.family,
        span_spread a.logging,
        append_assoc,
      ),
      record { selecting = file.selecting_cells-file.ensures.1; syllabus = omega arith; unnamed = unnamed },
    )
