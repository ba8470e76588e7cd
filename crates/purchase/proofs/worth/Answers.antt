use borrow.Author.Rules.{rules}
use Rattle.purchase.specs.Meter.{worth}
use Rattle.purchase.proofs.worth.Goals as goal

pub returns : goal.returns
unfolding worth
returns c = simp (c.worth_in.ensures, c.currency.ensures)
