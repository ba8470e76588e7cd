-- The invariant: what was passed is put.
use lib.ListN.{take}
use Rattle.words.specs.Put.{Put}
use Rattle.words.proofs.put_word.Given as goal

abbrev pub invariant-loop-byte : goal.invariant-loop-byte
invariant-loop-byte l =
    Put l.initial.room l.at (take l.byte-index l.word) l.end l.room
