-- The timing is told by its name.
use native.Mathlib.Omega.{arith}
use Rattle.limits.specs.Limits.{dating_flags}
use Rattle.cyclic_tests.proofs.test_dating.Goals as goal

pub returns-in-Undated : goal.returns-in-Undated
unfolding dating_flags
returns-in-Undated c = (simp c.in-Undated.is, omega arith)

pub returns-in-InOrder : goal.returns-in-InOrder
unfolding dating_flags
returns-in-InOrder c = (
  simp (
    c.in-InOrder.is,
    c.bit-in-InOrder.ensures.0,
    c.test_cyclic-in-InOrder.ensures,
    c.bit.ensures.0,
    c.test_cyclic.ensures,
  ) (omega arith),
  omega (arith, c.bit-in-InOrder.ensures.1, c.bit.ensures.1),
)

pub returns-in-DateError : goal.returns-in-DateError
unfolding dating_flags
returns-in-DateError c = (simp c.in-DateError.is, omega arith)

pub bounds-amounts-0 : goal.bounds-amounts-0
bounds-amounts-0 c = omega arith

pub bounds-amounts-1 : goal.bounds-amounts-1
bounds-amounts-1 c = omega arith

pub overflow_mul-result : goal.overflow_mul-result
overflow_mul-result c = omega arith

pub overflow_add-result : goal.overflow_add-result
overflow_add-result c = omega arith
