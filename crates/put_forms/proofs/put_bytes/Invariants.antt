-- The invariant: what was passed is put.
use mathlib.Core.Path.{◌≡◌}
use Prim.Native.Nat.{◌-◌, ◌≤◌}
use lib.ListN.{length}
use Rattle.hex_digits.specs.Hex.{hex}
use Rattle.words.specs.Put.{Put}
use Rattle.forms.specs.Form.{bytes_at}
use Rattle.put_forms.proofs.put_bytes.Given as goal

abbrev pub invariant-loop-i : goal.invariant-loop-i
invariant-loop-i l = Put l.initial.room l.at (hex (bytes_at l.bytes 0 l.i)) l.end l.room × (l.i ≤ l.count) × (length l.room ≡ length l.initial.room)

abbrev pub decreases-loop-i : goal.decreases-loop-i
decreases-loop-i l = l.count - l.i
