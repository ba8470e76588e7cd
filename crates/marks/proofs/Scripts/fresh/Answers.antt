use Rattle.std.proofs.Common.{refl}
use Rattle.marks.specs.Marks.{kept, fresh_scripts}
use Rattle.marks.proofs.Scripts.fresh.Goals as goal

pub returns : goal.returns
unfolding fresh_scripts kept
returns c = refl
