use mathlib.Core.Bool.{and-false}
use Rattle.accumulator_tests.proofs.included.Goals as goal

pub returns-then-not-include : goal.returns-then-not-include
returns-then-not-include c = simp (c.if-not-include.true, and-false)

pub returns-then-is_open : goal.returns-then-is_open
returns-then-is_open c =
    let included = c.if-not-include.false in
    simp (c.worth.ensures, ← c.is_open.ensures, c.if-is_open.true, included)

pub returns : goal.returns
returns c = simp (← c.is_open.ensures, c.if-is_open.false)
