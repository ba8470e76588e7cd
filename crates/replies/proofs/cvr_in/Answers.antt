use Rattle.replies.specs.Replies.{cvr_in}
use Rattle.replies.proofs.cvr_in.Goals as goal

pub returns : goal.returns
unfolding cvr_in
returns c =
    let third = c in
    let first = third in
    simp (
      c.pair_at-5.ensures.0,
      c.pair_at-4.ensures.0,
      third.pair_at-3.ensures.0,
      third.pair_at-2.ensures.0,
      first.pair_at.ensures.0,
    )
