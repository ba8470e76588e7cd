-- A part, and what is behind it: each call stands further on in the grammar.
use Prim.Native.Nat.{◌-◌}
use lib.ListN.{length}
use Rattle.walk.proofs.+width.Given as goal

abbrev pub decreases-width : goal.decreases-width
decreases-width l = length l.grammar.now - l.t
