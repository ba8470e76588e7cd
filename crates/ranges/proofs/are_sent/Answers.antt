use native.Mathlib.Omega.{arith}
use Rattle.ranges.specs.Ranges.{are_sent}
use Rattle.ranges.proofs.are_sent.Goals as goal

pub returns : goal.returns
unfolding are_sent
returns c = simp (c.byte_at-3.ensures, c.byte_at-2.ensures, c.byte_at.ensures)

pub overflow_add-at : goal.overflow_add-at
overflow_add-at c = omega arith

pub overflow_add-at-2 : goal.overflow_add-at-2
overflow_add-at-2 c = omega arith

pub overflow_add-at-3 : goal.overflow_add-at-3
overflow_add-at-3 c = omega arith
