-- The invariant: the byte is put as often as it was passed.
use lib.ListN.{replicate}
use Rattle.words.specs.Put.{Put}
use Rattle.words.proofs.put_times.Given as goal

abbrev pub invariant-loop : goal.invariant-loop
invariant-loop l = Put l.initial.room l.at (replicate l.counter l.byte) l.end l.room
