-- The room is as long as it was made.
use Rattle.std.proofs.Common.{sym, ℕ}
use Rattle.std.proofs.lemmas.List.{length-replicate}
use Rattle.desk.proofs.run_sitting.Goals as goal

pub slice_bounds-sit-end-2 : goal.slice_bounds-sit-end-2
slice_bounds-sit-end-2 g c = sym (length-replicate {A = ℕ} 770118 0)
