use Rattle.ranges.specs.Ranges.{is_setup}
use Rattle.ranges.proofs.is_setup.Goals as goal

pub returns : goal.returns
unfolding is_setup
returns c =
    let profiles = c in
    let length = profiles in
    simp (
      c.are_pairs_apart.ensures,
      c.are_conversions.ensures,
      c.are_numbers_apart.ensures,
      profiles.are_profiles.ensures,
      profiles.are_accumulators.ensures,
      profiles.is_head.ensures,
      length.has_length.ensures,
    )
