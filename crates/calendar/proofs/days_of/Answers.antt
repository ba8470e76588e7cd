use borrow.Author.Rules.{rules}
use Rattle.calendar.specs.Calendar.{days_of}
use Rattle.calendar.proofs.days_of.Goals as goal

pub returns : goal.returns
unfolding days_of
returns c = simp (c.day_number.ensures, c.day_of.ensures, c.month_of.ensures, c.year_of.ensures)
