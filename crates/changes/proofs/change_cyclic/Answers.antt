-- The change is told by its name.
use mathlib.Core.Bool.{and-false}
use Rattle.changes.proofs.change_cyclic.Goals as goal

pub returns-in-Approve : goal.returns-in-Approve
returns-in-Approve c = simp (c.in-Approve.is, c.grow_cyclic.ensures)

pub returns-in-Decline : goal.returns-in-Decline
returns-in-Decline c = simp (c.in-Decline.is, and-false)

pub returns-in-SetToLimits : goal.returns-in-SetToLimits
returns-in-SetToLimits c = simp (c.in-SetToLimits.is, c.put_cyclic.ensures)

pub returns-in-Clear : goal.returns-in-Clear
returns-in-Clear c = simp (c.in-Clear.is, c.put_cyclic-in-Clear.ensures)
