-- The records passed are in the ring, and the others are not yet.
use Prim.Native.Nat.{◌-◌}
use lib.ListN.{length}
use Rattle.run_log.proofs.Going.{Going}
use Rattle.run_log.proofs.watch_run.Given as goal

abbrev pub invariant-loop-at : goal.invariant-loop-at
invariant-loop-at l = Going l.logging l.records l.place l.answers l.initial.ring l.ring l.at l.from

abbrev pub decreases-loop-at : goal.decreases-loop-at
decreases-loop-at l = length l.records - l.at
