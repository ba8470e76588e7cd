-- The code's tests are the definition's.
use Rattle.iad.specs.Iad.{has_fixed_bytes}
use Rattle.iad.proofs.has_fixed_bytes.Goals as goal

pub returns : goal.returns
unfolding has_fixed_bytes
returns c =
    simp (c.are_zeros.ensures, c.byte_at-3.ensures, c.byte_at-2.ensures, c.byte_at.ensures)
