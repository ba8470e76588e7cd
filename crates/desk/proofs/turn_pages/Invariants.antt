-- Each turn is counted, and the places stay in the buffer.
use Rattle.std.proofs.Common.{◌-◌, ◌≤◌, length}
use Rattle.desk.proofs.turn_pages.Given as goal

abbrev pub invariant-loop : goal.invariant-loop
invariant-loop g l = (l.counter ≤ 18446744073709551615) × (l.at ≤ l.filled) × (l.filled ≤ length l.buffer)

abbrev pub decreases-loop : goal.decreases-loop
decreases-loop g l = 18446744073709551615 - l.counter
