-- Each byte stands at its place.
use Rattle.iad.specs.Iad.{cvr_of}
use Rattle.iad.proofs.cvr_of.Goals as goal

pub returns : goal.returns
unfolding cvr_of
returns c =
    let d = c in
    simp (c.byte_at-5.ensures, c.byte_at-4.ensures, c.byte_at-3.ensures, d.byte_at-2.ensures, d.byte_at.ensures)
