use borrow.Author.Rules.{rules}
use Rattle.choice.specs.Choice.{slots_of}
use Rattle.choice.proofs.slots_of.Goals as goal

pub returns : goal.returns
unfolding slots_of
returns c = simp c.is_cpace.ensures
