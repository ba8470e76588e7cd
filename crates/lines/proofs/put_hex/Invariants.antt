-- The invariant: the bytes passed are stored in hex.
use borrow.Author.Rules.{rules}
use mathlib.Core.Path.{◌≡◌}
use Prim.Native.Nat.{◌+◌, ◌*◌, ◌-◌, ◌≤◌}
use native.Mathlib.Omega.{arith}
use lib.ListN.{length, take}
use lib.Seq.{take-length}
use Rattle.hex_digits.specs.Hex.{hex}
use Rattle.text.specs.Stored.{Stored}
use Rattle.text.proofs.Stores.{next}
use Rattle.hex_digits.proofs.Bytes.{hex-more}
use Rattle.lines.proofs.put_hex.Given as goal

abbrev pub invariant-loop-i : goal.invariant-loop-i
invariant-loop-i l =
    Stored l.initial.room l.at (hex (take l.i l.bytes)) (2 * l.i) l.end l.room × (l.i ≤ l.i-end) × (l.i-end ≡ length l.bytes) × (length l.room ≡ length l.initial.room)

abbrev pub decreases-loop-i : goal.decreases-loop-i
decreases-loop-i l = l.i-end - l.i
