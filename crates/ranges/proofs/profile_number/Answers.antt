use Rattle.ranges.specs.Ranges.{profile_number}
use Rattle.ranges.proofs.profile_number.Goals as goal

pub returns : goal.returns
unfolding profile_number
returns c = simp (c.byte_at.ensures, c.profile_place.ensures.0)
