use borrow.Author.Rules.{rules}
use Rattle.days.specs.Days.{has_day}
use Rattle.days.proofs.has_day.Goals as goal

pub returns : goal.returns
unfolding has_day
returns c = simp c.month_length.ensures
