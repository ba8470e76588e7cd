-- After i turns the power is 10^i, and the loop makes |s| turns.
use mathlib.Core.Path.{◌≡◌}
use Prim.Native.Nat.{◌+◌, ◌-◌, ◌^◌, ◌≤◌}
use Rattle.money.proofs.scale.Given as goal

abbrev pub invariant-loop : goal.invariant-loop
invariant-loop l =
    (l.counter ≤ l.exponent) × (l.exponent ≡ (9 - l.rate.shift) + (l.rate.shift - 9)) × (l.power ≡ 10 ^ l.counter) × (l.product ≤ 9998999999990001)

abbrev pub decreases-loop : goal.decreases-loop
decreases-loop l = l.exponent - l.counter
