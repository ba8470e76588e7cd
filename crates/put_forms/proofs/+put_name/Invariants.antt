-- The first name, or one of the others.
use Prim.Native.Nat.{◌-◌}
use lib.ListN.{length}
use Rattle.put_forms.proofs.+put_name.Given as goal

abbrev pub decreases-put_name : goal.decreases-put_name
decreases-put_name l = length l.grammar.now - l.t
