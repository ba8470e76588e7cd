use Rattle.ranges.specs.Ranges.{are_counter_rules}
use Rattle.ranges.proofs.are_counter_rules.Goals as goal

pub returns : goal.returns
unfolding are_counter_rules
returns c =
    let first = c in
    simp (
      c.is_counter_rule-4.ensures,
      c.is_counter_rule-3.ensures,
      c.is_counter_rule-2.ensures,
      first.is_counter_rule.ensures,
    )
