use Rattle.marks.proofs.Masks.{is-failed}
use Rattle.marks.proofs.Scripts.with_failure.Goals as goal

pub returns : goal.returns
returns c = is-failed _
