use borrow.Author.Rules.{rules}
use Rattle.checks.proofs.Bits.{bits-apart}
use Rattle.first.specs.First.{first_answered}
use Rattle.first.proofs.answer.Goals as goal

pub returns : goal.returns
unfolding first_answered
returns c =
    let limits = c in
    let masks = limits in
    simp (
      c.conclude.ensures,
      c.verify-cvr.ensures,
      limits.limits_of-limits.ensures,
      limits.decide-kind.ensures,
      masks.profile_masks.ensures,
      masks.decision_bits-adr.ensures,
      masks.history_bits.ensures.0,
      bits-apart,
    )
