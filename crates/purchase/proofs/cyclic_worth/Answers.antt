use borrow.Author.Rules.{rules}
use Rattle.purchase.specs.Meter.{cyclic_worth}
use Rattle.purchase.proofs.cyclic_worth.Goals as goal

pub returns : goal.returns
unfolding cyclic_worth
returns c = simp (c.worth_in.ensures, c.cycle_of-cycle.ensures)
