use borrow.Author.Rules.{rules}
use Rattle.frame.specs.Frame.{mac_place}
use Rattle.frame.proofs.mac_place.Goals as goal

pub returns : goal.returns
unfolding mac_place
returns c = (simp (c.length_at.ensures.0, c.list_place.ensures.0), search rules)
