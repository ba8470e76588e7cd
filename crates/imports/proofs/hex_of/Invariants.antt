-- The invariant: the bytes passed stand in hex.
use mathlib.Core.Path.{◌≡◌}
use Prim.Native.Nat.{◌*◌, ◌≤◌}
use lib.ListN.{length, take, replicate}
use Rattle.hex_digits.specs.Hex.{hex}
use Rattle.text.specs.Stored.{Stored}
use Rattle.imports.proofs.hex_of.Given as goal

abbrev pub invariant-loop-i : goal.invariant-loop-i
invariant-loop-i l = Stored (replicate 30 0) 0 (hex (take l.i l.bytes)) (2 * l.i) (2 * l.i) l.text × (l.i ≤ 15) × (length l.text ≡ 30)
