-- The number of entries to pass falls with each call.
use Rattle.selection.proofs.+move_down.Given as goal

abbrev pub decreases-move_down : goal.decreases-move_down
decreases-move_down l = l.entries
