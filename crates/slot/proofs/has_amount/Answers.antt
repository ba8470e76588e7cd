use borrow.Author.Rules.{rules}
use Rattle.slot.specs.Slot.{has_amount}
use Rattle.slot.proofs.has_amount.Goals as goal

pub returns : goal.returns
unfolding has_amount
returns c = simp (c.are_pairs.ensures, c.place_of.ensures)
