-- At each place the sum that is carried is put, and the one that was there is carried on.
use mathlib.Core.Path.{◌≡◌}
use mathlib.Core.List.{◌∷◌}
use Prim.Native.Nat.{◌-◌, ◌≤◌}
use Rattle.sums.specs.Sums.{new, sums_from, written}
use Rattle.sums.proofs.push.Given as goal

abbrev pub invariant-loop-at : goal.invariant-loop-at
invariant-loop-at l =
    (l.at ≤ l.count)
    × (written l.from (new l.code-2 l.sum-2 ∷ sums_from (l.count - l.from) l.from l.initial.sheet) l.initial.sheet ≡ written l.at (new l.code l.sum ∷ sums_from (l.count - l.at) l.at l.sheet) l.sheet)
