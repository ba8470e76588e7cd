-- A name is passed, with its word where the text has it; the bits above are doubled.
use Rattle.std.proofs.Common.{◌-◌, length}
use Rattle.read_forms.proofs.+read_names.Given as goal

abbrev pub decreases-read_names : goal.decreases-read_names
decreases-read_names l = length l.grammar.now - l.name
