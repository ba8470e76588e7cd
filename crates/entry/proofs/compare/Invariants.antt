-- The loop's invariant: up to byte k the masked data and the block are the same.
use Rattle.entry.proofs.Compared.{Same}
use Rattle.entry.proofs.compare.Given as goal

abbrev pub invariant-loop-k : goal.invariant-loop-k
invariant-loop-k l = Same l.entry l.i l.data l.start l.length l.place l.k
