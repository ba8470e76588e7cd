use native.Mathlib.Omega.{arith}
use borrow.Author.Rules.{rules}
use Rattle.calendar.specs.Calendar.{cycle_of}
use Rattle.calendar.proofs.Months.{days_most}
use Rattle.calendar.proofs.cycle_of.Goals as goal

pub overflow_add-result : goal.overflow_add-result
overflow_add-result c = omega (arith, days_most c.args.date)

pub returns-in-Day : goal.returns-in-Day
unfolding cycle_of
returns-in-Day c = simp (c.in-Day.is, c.days_of.ensures)

pub returns-in-Week : goal.returns-in-Week
unfolding cycle_of
returns-in-Week c = simp (c.in-Week.is, c.days_of-in-Week.ensures)

pub returns-in-Month : goal.returns-in-Month
unfolding cycle_of
returns-in-Month c = simp (c.in-Month.is, c.month_of.ensures, c.year_of.ensures)
