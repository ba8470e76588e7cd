use borrow.Author.Rules.{rules}
use native.Mathlib.Omega.{arith}
use Rattle.days.specs.Days.{day_number}
use Rattle.days.proofs.Before.{before-most}
use Rattle.days.proofs.day_number.Goals as goal

pub overflow_add-days : goal.overflow_add-days
overflow_add-days c = omega (arith, before-most c.args.month)

pub overflow_add-days-2 : goal.overflow_add-days-2
overflow_add-days-2 c = omega (arith, before-most c.args.month)

pub overflow_add-result : goal.overflow_add-result
overflow_add-result c = omega (arith, before-most c.args.month)

pub returns-then-month-is_leap : goal.returns-then-month-is_leap
unfolding day_number
returns-then-month-is_leap c = simp (c.if-month-is_leap.true, ← c.is_leap.ensures, ← c.days_before.ensures) (omega arith)

pub returns-else-month-is_leap : goal.returns-else-month-is_leap
unfolding day_number
returns-else-month-is_leap c = simp (c.if-month-is_leap.false, ← c.is_leap.ensures, ← c.days_before.ensures) (omega arith)
