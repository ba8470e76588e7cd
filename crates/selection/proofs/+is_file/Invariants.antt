-- The number of entries left falls with each call.
use Rattle.selection.proofs.+is_file.Given as goal

abbrev pub decreases-is_file : goal.decreases-is_file
decreases-is_file l = l.entries
