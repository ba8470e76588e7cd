use borrow.Author.Rules.{rules}
use Rattle.lines.proofs.Numbers.{none}
use Rattle.lines.proofs.number_of.Goals as goal

pub returns-in-Refused : goal.returns-in-Refused
returns-in-Refused c = simp (c.in-Refused.is, c.number.ensures)

pub returns-in_default : goal.returns-in_default
returns-in_default c = none c.args.answer c.in_default.not-Refused
