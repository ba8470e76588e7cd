use borrow.Author.Rules.{rules}
use Rattle.calendar.specs.Calendar.{is_day}
use Rattle.calendar.proofs.is_day.Goals as goal

pub returns : goal.returns
unfolding is_day
returns c =
    let year = c in
    simp (
      c.has_day.ensures,
      c.day_of.ensures,
      c.month_of.ensures,
      year.year_of.ensures,
      year.has_digits.ensures,
    )
