use native.Mathlib.Omega.{arith}
use Rattle.ranges.specs.Ranges.{is_profile}
use Rattle.ranges.proofs.is_profile.Goals as goal

pub returns : goal.returns
unfolding is_profile
returns c =
    let maximum = c in
    simp (
      c.are_sent.ensures,
      c.are_counter_rules.ensures,
      c.are_accumulator_rules.ensures,
      maximum.is_maximum_amount.ensures,
      maximum.are_masks.ensures,
      maximum.byte_at-number.ensures,
    )

pub are_masks-requires : goal.are_masks-requires
are_masks-requires c = omega arith

pub is_maximum_amount-requires : goal.is_maximum_amount-requires
is_maximum_amount-requires c = omega arith

pub are_accumulator_rules-requires : goal.are_accumulator_rules-requires
are_accumulator_rules-requires c = omega arith

pub are_counter_rules-requires : goal.are_counter_rules-requires
are_counter_rules-requires c = omega arith

pub are_sent-requires : goal.are_sent-requires
are_sent-requires c = omega arith
