use borrow.Author.Rules.{rules}
use Rattle.card.specs.Card.{step_of}
use Rattle.card.proofs.step.Goals as goal

pub returns-in-Start : goal.returns-in-Start
unfolding step_of
returns-in-Start c = simp (c.in-Start.is, c.answer_start.ensures)

pub returns-in-First : goal.returns-in-First
unfolding step_of
returns-in-First c = simp (c.in-First.is, c.answer_first.ensures)

pub returns-in-Second : goal.returns-in-Second
unfolding step_of
returns-in-Second c = simp (c.in-Second.is, c.answer_second.ensures)
