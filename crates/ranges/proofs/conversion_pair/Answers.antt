use Rattle.ranges.specs.Ranges.{conversion_pair}
use Rattle.ranges.proofs.conversion_pair.Goals as goal

pub returns : goal.returns
unfolding conversion_pair
returns c = simp (c.u32_at.ensures, c.conversion_place.ensures.0)
