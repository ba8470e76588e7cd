-- By the mark of each part: what is read of it, and then what follows.
use Rattle.std.proofs.Common.{◌-◌, length}
use Rattle.read_forms.proofs.+read_form.Given as goal

abbrev pub decreases-read_form : goal.decreases-read_form
decreases-read_form l = length l.grammar.now - l.t
