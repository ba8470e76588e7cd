use borrow.Author.Rules.{rules}
use Rattle.card.specs.Card.{second_step, second_taken}
use Rattle.card.proofs.answer_second.Goals as goal

pub returns-in-Idle : goal.returns-in-Idle
unfolding second_step
returns-in-Idle c = simp (c.in-Idle.is, c.refuse.ensures)

pub returns-in-Opened : goal.returns-in-Opened
unfolding second_step
returns-in-Opened c = simp (c.in-Opened.is, c.refuse-in-Opened.ensures)

pub returns-in-Asked : goal.returns-in-Asked
unfolding second_step second_taken
returns-in-Asked c = simp (c.in-Asked.is, c.take_second.ensures)
