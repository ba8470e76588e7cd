-- The currencies passed are smaller.
use mathlib.Core.Path.{◌≡◌}
use Prim.Native.Nat.{◌+◌, ◌-◌, ◌≤◌}
use Rattle.sums.specs.Sums.{place_of, sums_from}
use Rattle.sums.proofs.place_of.Given as goal

abbrev pub invariant-loop-at : goal.invariant-loop-at
invariant-loop-at l =
    (l.at ≤ l.count) × (place_of l.code (sums_from l.count 0 l.sheet) ≡ l.at + place_of l.code (sums_from (l.count - l.at) l.at l.sheet))
