-- The fields passed are stored in hex.
use mathlib.Core.Path.{◌≡◌}
use Prim.Native.Nat.{◌*◌, ◌-◌, ◌≤◌}
use lib.ListN.{length}
use Rattle.text.specs.Stored.{Stored}
use Rattle.log_fields.specs.LogFields.{field_count}
use Rattle.log_lines.specs.LogLines.{field_texts}
use Rattle.log_lines.proofs.put_fields.Given as goal

abbrev pub invariant-loop-i : goal.invariant-loop-i
invariant-loop-i l =
    Stored l.initial.room l.at (field_texts l.paper l.tail l.form l.kept l.i) (48 * l.i) l.end l.room × (l.i ≤ l.i-end) × (l.i-end ≡ field_count l.tail l.form l.kept)
    × (length l.room ≡ length l.initial.room)

abbrev pub decreases-loop-i : goal.decreases-loop-i
decreases-loop-i l = l.i-end - l.i
