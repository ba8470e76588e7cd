-- The lines passed are stored.
use mathlib.Core.Path.{◌≡◌}
use Prim.Native.Nat.{◌*◌, ◌-◌, ◌≤◌}
use lib.ListN.{length}
use Rattle.text.specs.Text.{joined}
use Rattle.text.specs.Stored.{Stored}
use Rattle.ring.specs.Ring.{count_in}
use Rattle.log_text.specs.LogText.{lines_up_to}
use Rattle.log_text.proofs.put_lines.Given as goal

abbrev pub invariant-loop-i : goal.invariant-loop-i
invariant-loop-i l =
    Stored l.initial.room l.at (joined (lines_up_to l.paper l.tail l.form l.ring l.size l.i)) (12287 * l.i) l.end l.room × (l.i ≤ l.i-end) × (l.i-end ≤ 20)
    × (l.i-end ≡ count_in l.ring l.size) × (length l.room ≡ length l.initial.room)

abbrev pub decreases-loop-i : goal.decreases-loop-i
decreases-loop-i l = l.i-end - l.i
