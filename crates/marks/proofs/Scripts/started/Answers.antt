use Rattle.std.proofs.Common.{arith}
use Rattle.marks.proofs.Masks.{is-started}
use Rattle.marks.proofs.Scripts.started.Goals as goal

pub returns : goal.returns
returns c = is-started _ (omega arith)
