use Rattle.entry.proofs.Facts.{past_test}
use Rattle.entry.proofs.reaches_past.Goals as goal

pub returns : goal.returns
returns c = past_test _ _ _ _ c.byte_at.ensures c.byte_at-2.ensures
