use Rattle.journal.specs.Journal.{closed_by}
use Rattle.watching.proofs.closed_by.Goals as goal

pub returns : goal.returns
unfolding closed_by
returns c = simp c.cid.ensures
