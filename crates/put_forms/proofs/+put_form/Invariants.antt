-- A part, and what is behind it.
use Prim.Native.Nat.{◌-◌}
use lib.ListN.{length}
use Rattle.put_forms.proofs.+put_form.Given as goal

abbrev pub decreases-put_form : goal.decreases-put_form
decreases-put_form l = length l.grammar.now - l.t
