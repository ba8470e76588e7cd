use Rattle.ranges.specs.Ranges.{are_accumulators}
use Rattle.ranges.proofs.are_accumulators.Goals as goal

pub returns : goal.returns
unfolding are_accumulators
returns c =
    let first = c in
    simp (
      c.is_accumulator-4.ensures,
      c.is_accumulator-3.ensures,
      c.is_accumulator-2.ensures,
      first.is_accumulator.ensures,
    )
