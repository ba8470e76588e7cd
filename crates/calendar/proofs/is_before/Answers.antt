use borrow.Author.Rules.{rules}
use Rattle.calendar.specs.Calendar.{is_before}
use Rattle.calendar.proofs.is_before.Goals as goal

pub returns : goal.returns
unfolding is_before
returns c = simp (c.code_of-2.ensures, c.code_of.ensures)
