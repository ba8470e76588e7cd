use Rattle.sheet.specs.Sheet.{counted}
use Rattle.sheet.proofs.count.Goals as goal

pub returns : goal.returns
unfolding counted
returns c = simp c.plus.ensures
