use mathlib.Core.Bool.{and-false, and-true}
use native.Mathlib.Omega.{arith}
use Rattle.counter_tests.proofs.one_included.Goals as goal

pub returns-then-not-include : goal.returns-then-not-include
returns-then-not-include c = (simp (c.if-not-include.true, and-false), omega arith)

pub returns : goal.returns
returns c =
    let included = c.if-not-include.false in
    (simp (c.bit.ensures.0, c.is_open.ensures, included, and-true), c.bit.ensures.1)

pub overflow_add-i : goal.overflow_add-i
overflow_add-i c = omega arith
