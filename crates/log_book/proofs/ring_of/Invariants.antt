-- The lines passed are in the ring, and those of the text's rest are not yet.
use mathlib.Core.Path.{◌≡◌}
use Prim.Native.Nat.{◌-◌, ◌≤◌}
use lib.ListN.{length, drop}
use Rattle.ring.specs.Ring.{no_records}
use Rattle.log_book.specs.Logbook.{lines_in, ring_by}
use Rattle.log_book.proofs.ring_of.Given as goal

abbrev pub invariant-loop-from : goal.invariant-loop-from
invariant-loop-from l =
    (ring_by l.logging l.paper l.start (lines_in l.text) no_records ≡ ring_by l.logging l.paper l.at (lines_in (drop l.from l.text)) l.ring)
    × (l.at ≤ length l.paper) × (l.from ≤ length l.text)

abbrev pub decreases-loop-from : goal.decreases-loop-from
decreases-loop-from l = length l.text - l.from
