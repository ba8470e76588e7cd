-- The bytes passed are stored in hex.
use mathlib.Core.Path.{◌≡◌}
use Prim.Native.Nat.{◌*◌}
use lib.ListN.{length, take}
use Rattle.hex_digits.specs.Hex.{hex}
use Rattle.text.specs.Stored.{Stored}
use Rattle.log_values.proofs.store_hex.Given as goal

abbrev pub invariant-loop-value : goal.invariant-loop-value
invariant-loop-value l =
    Stored l.initial.room l.at (hex (take l.value-index l.values)) (2 * l.value-index) l.end l.room × (length l.room ≡ length l.initial.room)
