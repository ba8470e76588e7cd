-- The loop's invariant: the amount is what the digits in the first i bytes write, and below 3 x 100^i, so that the next one fits.
use mathlib.Core.Path.{◌≡◌}
use Prim.Native.Nat.{◌+◌, ◌-◌, ◌*◌, ◌^◌, ◌≤◌}
use Rattle.digits.specs.Digits.{pairs_value}
use Rattle.digits.proofs.pairs_value.Given as goal

abbrev pub invariant-loop-i : goal.invariant-loop-i
invariant-loop-i l = (l.amount ≡ pairs_value l.s l.at l.i) × (l.amount + 3 ≤ 3 * 100 ^ l.i) × (l.i ≤ 6)

abbrev pub decreases-loop-i : goal.decreases-loop-i
decreases-loop-i l = 6 - l.i
