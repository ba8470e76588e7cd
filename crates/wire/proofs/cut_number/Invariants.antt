-- The bytes that are left, then a zero for each that lies past the end. The number stays below 256 to the bytes read, so that the next fits.
use mathlib.Core.Path.{◌≡◌}
use Prim.Native.Nat.{◌+◌, ◌-◌, ◌^◌, ◌≤◌, ◌<◌}
use lib.ListN.{length}
use Rattle.wire.specs.Wire.{number}
use Rattle.wire.proofs.cut_number.Given as goal

abbrev pub invariant-loop-byte : goal.invariant-loop-byte
invariant-loop-byte l = (l.n ≡ number l.s l.at l.byte-index) × (l.n < 256 ^ l.byte-index)

abbrev pub invariant-loop : goal.invariant-loop
invariant-loop l = (l.n ≡ number l.s l.at l.counter) × (l.n < 256 ^ l.counter) × (l.counter ≤ l.bytes) × (length l.s ≤ l.at + l.counter)

abbrev pub decreases-loop : goal.decreases-loop
decreases-loop l = l.bytes - l.counter
