use Rattle.replies.specs.Replies.{is_ending}
use Rattle.replies.proofs.is_ending.Goals as goal

pub returns : goal.returns
unfolding is_ending
returns c = simp (c.byte_at.ensures, c.behind.ensures.0)
