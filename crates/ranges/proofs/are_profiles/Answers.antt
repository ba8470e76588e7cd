use Rattle.ranges.specs.Ranges.{are_profiles}
use Rattle.ranges.proofs.are_profiles.Goals as goal

pub returns : goal.returns
unfolding are_profiles
returns c =
    let first = c in
    simp (
      c.is_profile_or_absent-4.ensures,
      c.is_profile_or_absent-3.ensures,
      c.is_profile_or_absent-2.ensures,
      first.is_profile_or_absent.ensures,
    )
