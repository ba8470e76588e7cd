use borrow.Author.Rules.{rules}
use Rattle.slot.specs.Slot.{tests_slot}
use Rattle.slot.proofs.tests_slot.Goals as goal

pub returns : goal.returns
unfolding tests_slot
returns c = simp c.check_type.ensures
