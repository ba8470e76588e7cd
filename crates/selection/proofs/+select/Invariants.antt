-- The number of entries left falls with each call, for a move is one entry at least.
use Rattle.selection.proofs.+select.Given as goal

abbrev pub decreases-select : goal.decreases-select
decreases-select l = l.entries
