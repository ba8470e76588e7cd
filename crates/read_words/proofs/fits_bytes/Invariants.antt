-- The invariant: the number fits so many bytes where what is left of it fits those that are left.
use mathlib.Core.Path.{◌≡◌}
use Prim.Native.Nat.{◌-◌, ◌^◌, ◌≤◌}
use lib.Dec.{ltb}
use Rattle.read_words.proofs.fits_bytes.Given as goal

abbrev pub invariant-loop : goal.invariant-loop
invariant-loop l = (ltb l.n (256 ^ l.count) ≡ ltb l.left (256 ^ (l.count - l.counter))) × (l.counter ≤ l.count)

abbrev pub decreases-loop : goal.decreases-loop
decreases-loop l = l.count - l.counter
