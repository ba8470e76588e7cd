-- The loop's invariant: `all` says whether the first i bytes hold digits only.
use mathlib.Core.Path.{◌≡◌}
use Prim.Native.Nat.{◌-◌, ◌≤◌}
use Rattle.iad.specs.Iad.{are_pairs}
use Rattle.iad.proofs.are_pairs.Given as goal

abbrev pub invariant-loop-i : goal.invariant-loop-i
invariant-loop-i l = (l.all ≡ are_pairs l.s 8 l.i) × (l.i ≤ 6)

abbrev pub decreases-loop-i : goal.decreases-loop-i
decreases-loop-i l = 6 - l.i
