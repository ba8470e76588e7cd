use native.Mathlib.Omega.{arith}
use native.Mathlib.Nat.{add-zero}
use Rattle.rooms.proofs.stored.Goals as goal

pub returns : goal.returns
returns c = let first = c in simp (first.cell-at.ensures.0, add-zero)

pub offset_bounds-rooms-at : goal.offset_bounds-rooms-at
offset_bounds-rooms-at c = omega arith

pub bounds-rooms-at : goal.bounds-rooms-at
bounds-rooms-at c = omega arith

pub overflow_add-result : goal.overflow_add-result
overflow_add-result c = omega arith

pub offset_bounds-rooms-at-2 : goal.offset_bounds-rooms-at-2
offset_bounds-rooms-at-2 c = omega arith

pub bounds-rooms-at-2 : goal.bounds-rooms-at-2
bounds-rooms-at-2 c = omega arith

pub overflow_add-result-2 : goal.overflow_add-result-2
overflow_add-result-2 c = omega arith

pub offset_bounds-rooms-at-3 : goal.offset_bounds-rooms-at-3
offset_bounds-rooms-at-3 c = omega arith

pub bounds-rooms-at-3 : goal.bounds-rooms-at-3
bounds-rooms-at-3 c = omega arith

pub overflow_add-result-3 : goal.overflow_add-result-3
overflow_add-result-3 c = omega arith

pub offset_bounds-rooms-at-4 : goal.offset_bounds-rooms-at-4
offset_bounds-rooms-at-4 c = omega arith

pub bounds-rooms-at-4 : goal.bounds-rooms-at-4
bounds-rooms-at-4 c = omega arith
