-- The piece is the buffer.
use Rattle.std.proofs.Common.{length, ◌≤◌, ◌≡◌}
use Rattle.intake.proofs.pass_over.Given as goal

abbrev pub invariant-loop-left : goal.invariant-loop-left
invariant-loop-left g l = (1 ≤ l.piece) × (l.piece ≡ length l.buffer)

abbrev pub decreases-loop-left : goal.decreases-loop-left
decreases-loop-left g l = l.left
