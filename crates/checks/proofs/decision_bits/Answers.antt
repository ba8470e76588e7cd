use native.Mathlib.Omega.{arith}
use Rattle.limits.specs.Limits.{accumulators_lower, accumulators_upper, counters_lower, counters_upper, dating_flags}
use Rattle.checks.specs.Checks.{test_bits}
use Rattle.checks.proofs.decision_bits.Goals as goal

pub returns : goal.returns
unfolding test_bits accumulators_lower accumulators_upper counters_lower counters_upper dating_flags
returns c =
    simp (
      c.bit-2.ensures.0,
      c.finds_cashback.ensures,
      c.test_dating.ensures.0,
      c.test_counters.ensures,
      c.test_accumulators.ensures,
      c.bit.ensures.0,
      c.exceeds_maximum.ensures,
    ) (omega arith)
