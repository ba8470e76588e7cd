-- Each field stands at its place.
use Rattle.iad.specs.Iad.{iad_of}
use Rattle.iad.proofs.iad_of.Goals as goal

pub returns : goal.returns
unfolding iad_of
returns c =
    let cvr = c in
    simp (
      c.byte_at-4.ensures,
      c.byte_at-3.ensures,
      c.byte_at-2.ensures,
      cvr.cvr_of.ensures,
      cvr.byte_at.ensures,
      cvr.pairs_value.ensures,
    )
