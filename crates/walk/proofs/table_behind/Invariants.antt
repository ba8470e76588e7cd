-- The invariant: what is behind the table from its first row on is behind it from this row on.
use mathlib.Core.Path.{◌≡◌}
use Prim.Native.Nat.{◌-◌}
use lib.ListN.{length}
use Rattle.lexing.specs.Places.{lines_at}
use Rattle.walk.specs.Walk.{past_rows}
use Rattle.walk.proofs.table_behind.Given as goal

abbrev pub invariant-loop-row : goal.invariant-loop-row
invariant-loop-row l = past_rows (lines_at l.grammar l.table) ≡ past_rows (lines_at l.grammar l.row)

abbrev pub decreases-loop-row : goal.decreases-loop-row
decreases-loop-row l = length l.grammar - l.row
