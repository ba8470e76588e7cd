use Rattle.ranges.specs.Ranges.{is_head}
use Rattle.ranges.proofs.is_head.Goals as goal

pub returns : goal.returns
unfolding is_head
returns c =
    let tries = c in
    simp (
      c.byte_at-4.ensures,
      c.byte_at-3.ensures,
      c.byte_at-2.ensures,
      tries.byte_at.ensures,
      tries.byte_at-p.ensures,
    )
