-- The fields of a Profile Selection Entry (CPA Annex A, TABLE A-1), in its order.
use Rattle.std.specs.Prelude.{ℕ, ◌+◌, ◌*◌, List}
use Rattle.wire.specs.Wire.{byte}

abbrev pub entry_length : List ℕ → ℕ
entry_length e = byte e 0

abbrev pub position : List ℕ → ℕ
position e = byte e 1

abbrev pub block_length : List ℕ → ℕ
block_length e = byte e 2

abbrev pub blocks : List ℕ → ℕ
blocks e = byte e 3

-- the blocks follow one another, the first being block 0
abbrev pub block_place : List ℕ → ℕ → ℕ
block_place e i = 4 + i * block_length e

abbrev pub blocks_end : List ℕ → ℕ
blocks_end e = block_place e (blocks e)

abbrev pub check_type : List ℕ → ℕ
check_type e = byte e (blocks_end e)

abbrev pub positive_action : List ℕ → ℕ
positive_action e = byte e (blocks_end e + 1)

abbrev pub negative_action : List ℕ → ℕ
negative_action e = byte e (blocks_end e + 2)
