use Rattle.ranges.specs.Ranges.{are_numbers_apart}
use Rattle.ranges.proofs.are_numbers_apart.Goals as goal

pub returns : goal.returns
unfolding are_numbers_apart
returns c =
    let second = c in
    simp (
      c.are_apart.ensures,
      c.profile_number-4.ensures,
      c.profile_number-3.ensures,
      second.profile_number-2.ensures,
      second.profile_number.ensures,
    )
