-- A part, and what is behind it.
use Prim.Native.Nat.{◌-◌}
use lib.ListN.{length}
use Rattle.put_forms.proofs.+is_blank.Given as goal

abbrev pub decreases-is_blank : goal.decreases-is_blank
decreases-is_blank l = length l.grammar.now - l.t
