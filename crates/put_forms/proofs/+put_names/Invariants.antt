-- The first name, where its bit is set, and the others.
use Prim.Native.Nat.{◌-◌}
use lib.ListN.{length}
use Rattle.put_forms.proofs.+put_names.Given as goal

abbrev pub decreases-put_names : goal.decreases-put_names
decreases-put_names l = length l.grammar.now - l.t
