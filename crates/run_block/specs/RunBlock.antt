-- A run as a block of a stack (request Eleven): the size of the room that is lent, and the records.
use Rattle.std.specs.Prelude.{cond, List, ℕ, ltb, length, drop, replicate}
use Rattle.wire.specs.Wire.{number}

-- A BLOCK: the size of the room, 4 bytes of which those missing are 0, and never above 65,536; behind it the records
unfoldable pub size_in : (block : List ℕ) → ℕ
size_in block = cond (ltb 65536 (number block 0 4)) 65536 (number block 0 4)

abbrev pub records_in : (block : List ℕ) → List ℕ
records_in block = drop 4 block

-- where they begin, in a block of less than 4 bytes at its end
abbrev pub head_in : (block : List ℕ) → ℕ
head_in block = cond (ltb (length block) 4) (length block) 4

-- the room is filled with AA and lent
abbrev pub filler : ℕ
filler = 170

abbrev pub lent : (block : List ℕ) → List ℕ
lent block = replicate (size_in block) filler
