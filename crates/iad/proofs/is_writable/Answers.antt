-- The code's tests are the definition's.
use Rattle.iad.specs.Iad.{is_writable}
use Rattle.iad.proofs.is_writable.Goals as goal

pub returns : goal.returns
unfolding is_writable
returns c = simp (c.is_profile.ensures, c.is_cvr.ensures)
