use borrow.Author.Rules.{rules}
use Rattle.fresh.specs.Fresh.{fresh_state}
use Rattle.fresh.proofs.fresh_card.Goals as goal

pub returns : goal.returns
unfolding fresh_state
returns c = simp c.fresh.ensures
