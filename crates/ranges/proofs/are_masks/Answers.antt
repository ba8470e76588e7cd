use native.Mathlib.Omega.{arith}
use Rattle.ranges.specs.Ranges.{are_masks}
use Rattle.ranges.proofs.are_masks.Goals as goal

pub returns : goal.returns
unfolding are_masks
returns c = simp (c.u32_at-3.ensures, c.u32_at-2.ensures, c.u32_at.ensures)

pub overflow_add-at : goal.overflow_add-at
overflow_add-at c = omega arith

pub overflow_add-at-2 : goal.overflow_add-at-2
overflow_add-at-2 c = omega arith

pub overflow_add-at-3 : goal.overflow_add-at-3
overflow_add-at-3 c = omega arith
