use Rattle.marks.proofs.Masks.{is-here}
use Rattle.marks.proofs.Scripts.is_failed_here.Goals as goal

pub returns : goal.returns
returns c = is-here c.args.self
