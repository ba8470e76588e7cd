use Rattle.ranges.specs.Ranges.{is_accumulator_rule}
use Rattle.ranges.proofs.is_accumulator_rule.Goals as goal

pub returns : goal.returns
unfolding is_accumulator_rule
returns c = simp (c.u64_at-2.ensures, c.u64_at.ensures, c.byte_at.ensures)
