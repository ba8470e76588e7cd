-- A group, and the others.
use Rattle.put_forms.proofs.+put_groups.Given as goal

abbrev pub decreases-put_groups : goal.decreases-put_groups
decreases-put_groups l = l.count
