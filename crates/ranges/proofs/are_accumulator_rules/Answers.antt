use Rattle.ranges.specs.Ranges.{are_accumulator_rules}
use Rattle.ranges.proofs.are_accumulator_rules.Goals as goal

pub returns : goal.returns
unfolding are_accumulator_rules
returns c =
    let first = c in
    simp (
      c.is_accumulator_rule-4.ensures,
      c.is_accumulator_rule-3.ensures,
      c.is_accumulator_rule-2.ensures,
      first.is_accumulator_rule.ensures,
    )
