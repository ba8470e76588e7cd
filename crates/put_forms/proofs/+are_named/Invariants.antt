-- A bit, and those above it.
use Prim.Native.Nat.{◌-◌}
use lib.ListN.{length}
use Rattle.put_forms.proofs.+are_named.Given as goal

abbrev pub decreases-are_named : goal.decreases-are_named
decreases-are_named l = length l.grammar.now - l.t
