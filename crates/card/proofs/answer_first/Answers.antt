use borrow.Author.Rules.{rules}
use Rattle.card.specs.Card.{first_step, first_taken}
use Rattle.card.proofs.answer_first.Goals as goal

pub returns-in-Idle : goal.returns-in-Idle
unfolding first_step
returns-in-Idle c = simp (c.in-Idle.is, c.refuse.ensures)

pub returns-in-Opened : goal.returns-in-Opened
unfolding first_step first_taken
returns-in-Opened c = simp (c.in-Opened.is, c.take_first.ensures)

pub returns-in-Asked : goal.returns-in-Asked
unfolding first_step
returns-in-Asked c = simp (c.in-Asked.is, c.refuse-in-Asked.ensures)
