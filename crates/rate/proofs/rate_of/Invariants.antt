-- The invariant: the place that is looked for is the first from here on.
use mathlib.Core.Path.{◌≡◌}
use Prim.Native.Nat.{◌-◌, ◌≤◌}
use Rattle.rate.specs.Rate.{first, has_digits, place}
use Rattle.rate.proofs.rate_of.Given as goal

abbrev pub invariant-loop-place : goal.invariant-loop-place
invariant-loop-place l = (l.place ≤ 13) × (place l.rate ≡ first (has_digits l.rate) (13 - l.place) l.place)
