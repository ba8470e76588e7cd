use Rattle.ranges.specs.Ranges.{are_pairs_apart}
use Rattle.ranges.proofs.are_pairs_apart.Goals as goal

pub returns : goal.returns
unfolding are_pairs_apart
returns c =
    let third = c in
    simp (
      c.are_apart.ensures,
      c.conversion_pair-e.ensures,
      c.conversion_pair-d.ensures,
      third.conversion_pair-c.ensures,
      third.conversion_pair-b.ensures,
      third.conversion_pair-a.ensures,
    )
