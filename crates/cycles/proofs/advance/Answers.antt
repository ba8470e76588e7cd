use Rattle.cycles.specs.Cycles.{advanced}
use Rattle.cycles.proofs.advance.Goals as goal

pub returns : goal.returns
unfolding advanced
returns c = simp (c.begin_amount-2.ensures, c.begin_amount.ensures)
