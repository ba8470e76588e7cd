-- At most 45 bytes for each slot.
use Rattle.std.proofs.Common.{◌+◌, ◌*◌, ◌≤◌}
use Rattle.templates.proofs.put_kind.Given as goal

abbrev pub invariant-loop-slot : goal.invariant-loop-slot
invariant-loop-slot l = (l.slot ≤ 4) × (l.at ≤ l.initial.at + 45 * l.slot)
