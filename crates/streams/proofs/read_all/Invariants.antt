-- The bytes that are there are the buffer's.
use Rattle.std.proofs.Common.{length, ◌-◌, ◌≤◌}
use Rattle.streams.proofs.read_all.Given as goal

abbrev pub invariant-loop-filled : goal.invariant-loop-filled
invariant-loop-filled g l = l.filled ≤ length l.initial.buffer

abbrev pub decreases-loop-filled : goal.decreases-loop-filled
decreases-loop-filled g l = length l.initial.buffer - l.filled
