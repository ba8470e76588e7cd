-- The bytes passed are stored in hex.
use mathlib.Core.Path.{◌≡◌}
use Prim.Native.Nat.{◌*◌}
use lib.ListN.{length}
use Rattle.text.specs.Stored.{Stored}
use Rattle.run_page.specs.RunPage.{hex_first}
use Rattle.run_text.proofs.put_lines.Given as goal

abbrev pub invariant-loop-i : goal.invariant-loop-i
invariant-loop-i l = Stored l.initial.room l.at (hex_first l.i l.bytes) (3 * l.i) l.end l.room × (length l.room ≡ length l.initial.room)
