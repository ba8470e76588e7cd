use Rattle.std.proofs.Common.{arith}
use Rattle.marks.proofs.Masks.{are-marks}
use Rattle.marks.proofs.Scripts.marks.Goals as goal

pub returns : goal.returns
returns c = are-marks _ (omega arith)
