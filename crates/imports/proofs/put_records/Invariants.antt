-- The invariant: the lines of the records passed stand in the room.
use mathlib.Core.Path.{◌≡◌}
use Prim.Native.Nat.{◌*◌, ◌≤◌}
use lib.ListN.{length}
use Rattle.text.specs.Stored.{Stored}
use Rattle.imports.specs.Imports.{lines_in}
use Rattle.imports.proofs.put_records.Given as goal

abbrev pub invariant-loop-i : goal.invariant-loop-i
invariant-loop-i l =
    Stored l.initial.room 0 (lines_in l.i l.number l.input) (54 * l.i) l.end l.room × (l.i ≤ l.records) × (length l.room ≡ length l.initial.room)
