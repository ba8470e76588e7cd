use native.Mathlib.Omega.{arith}
use Rattle.replies.specs.Replies.{pair_at}
use Rattle.replies.proofs.pair_at.Goals as goal

pub returns : goal.returns
unfolding pair_at
returns c =
    let lower = c.digit_value-2.ensures in
    let upper = c.digit_value.ensures in
    (simp (lower.0, c.byte_at-2.ensures, upper.0, c.byte_at.ensures), omega arith)
