use mathlib.Core.Path.{refl}
use Rattle.ring.specs.Ring.{record_in}
use Rattle.ring.proofs.record_in.Goals as goal

pub returns : goal.returns
unfolding record_in
returns c = refl
