use borrow.Author.Rules.{rules}
use Rattle.frame.specs.Frame.{list_place}
use Rattle.frame.proofs.list_place.Goals as goal

pub returns : goal.returns
unfolding list_place
returns c = (simp c.length_size.ensures.0, search rules)
