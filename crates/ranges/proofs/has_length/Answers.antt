use Rattle.ranges.specs.Ranges.{has_length}
use Rattle.ranges.proofs.has_length.Goals as goal

pub returns : goal.returns
unfolding has_length
returns c = simp c.base_length.ensures.0
