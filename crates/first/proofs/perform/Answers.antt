use borrow.Author.Rules.{rules}
use Rattle.first.specs.First.{first_performed}
use Rattle.first.proofs.perform.Goals as goal

pub returns : goal.returns
unfolding first_performed
returns c = simp (c.answer.ensures, c.take_date-state.ensures, c.timing_of-timing.ensures)
