use mathlib.Core.Path.{refl}
use Rattle.ring.specs.Ring.{record_put}
use Rattle.ring.proofs.put_record.Goals as goal

pub returns : goal.returns
unfolding record_put
returns c = refl
