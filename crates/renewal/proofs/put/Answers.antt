use native.Mathlib.Omega.{arith}
use borrow.Author.Rules.{rules}
use Rattle.rooms.specs.Rooms.{cell_set}
use Rattle.renewal.proofs.put.Goals as goal

pub returns : goal.returns
unfolding cell_set
returns c = simp (c.left.ensures, c.cell-at.ensures.0)

pub cell-at-requires : goal.cell-at-requires
cell-at-requires c = omega arith

pub offset_bounds-rooms-at : goal.offset_bounds-rooms-at
offset_bounds-rooms-at c = omega arith

pub bounds-rooms-at : goal.bounds-rooms-at
bounds-rooms-at c = omega arith
