use mathlib.Core.Path.{refl}
use Rattle.days.proofs.is_leap.Goals as goal

pub returns : goal.returns
returns c = refl
