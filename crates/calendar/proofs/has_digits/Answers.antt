use borrow.Author.Rules.{rules}
use Rattle.calendar.proofs.has_digits.Goals as goal

pub returns : goal.returns
returns c = simp (c.is_pair-3.ensures, c.is_pair-2.ensures, c.is_pair.ensures)
