-- The invariant: what was passed is put.
use lib.ListN.{take}
use Rattle.hex_digits.specs.Hex.{hex}
use Rattle.words.specs.Put.{Put}
use Rattle.words.proofs.put_hex.Given as goal

abbrev pub invariant-loop-byte : goal.invariant-loop-byte
invariant-loop-byte l =
    Put l.initial.room l.at (hex (take l.byte-index l.bytes)) l.end l.room
