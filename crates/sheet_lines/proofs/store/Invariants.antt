-- The lines passed are stored.
use mathlib.Core.Path.{◌≡◌}
use Prim.Native.Nat.{◌*◌, ◌-◌, ◌≤◌}
use lib.ListN.{length}
use Rattle.text.specs.Stored.{Stored}
use Rattle.sheet_lines.specs.SheetLines.{first_lines}
use Rattle.sheet_lines.proofs.store.Given as goal

abbrev pub invariant-loop-line : goal.invariant-loop-line
invariant-loop-line l =
    Stored l.initial.room l.at (first_lines l.line l.form l.sheet) (110 * l.line) l.end l.room × (l.line ≤ 178) × (length l.room ≡ length l.initial.room)

abbrev pub decreases-loop-line : goal.decreases-loop-line
decreases-loop-line l = 178 - l.line
