use Rattle.ranges.specs.Ranges.{are_conversions}
use Rattle.ranges.proofs.are_conversions.Goals as goal

pub returns : goal.returns
unfolding are_conversions
returns c =
    let second = c in
    simp (
      c.is_conversion_or_absent-5.ensures,
      c.is_conversion_or_absent-4.ensures,
      c.is_conversion_or_absent-3.ensures,
      second.is_conversion_or_absent-2.ensures,
      second.is_conversion_or_absent.ensures,
    )
