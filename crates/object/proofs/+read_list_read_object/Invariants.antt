-- Each call is of fewer bytes, or opens one depth less; the list reads as what of it is left.
use mathlib.Core.Path.{◌≡◌}
use Prim.Native.Nat.{◌+◌, ◌-◌}
use lib.ListN.{length, drop}
use Rattle.object.specs.Object.{read_list}
use Rattle.object.proofs.+read_list_read_object.Given as goal

abbrev pub decreases-read_list : goal.decreases-read_list
decreases-read_list l = length l.s.now + l.depths

abbrev pub invariant-read_list-loop-at : goal.invariant-read_list-loop-at
invariant-read_list-loop-at l = read_list l.depths l.s ≡ read_list l.depths (drop l.at l.s)

abbrev pub decreases-read_list-loop-at : goal.decreases-read_list-loop-at
decreases-read_list-loop-at l = length l.s - l.at

abbrev pub decreases-read_object : goal.decreases-read_object
decreases-read_object l = length l.s.now + l.depths
