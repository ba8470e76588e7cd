-- One old record worked out: 0.85 and 12,345 from 0978 to 0840, in a room of a byte more. Assumes nothing.
use mathlib.Core.Path.{◌≡◌, refl}
use mathlib.Core.List.{List, [], ◌∷◌}
use Prim.Native.Nat.{ℕ}
use native.Mathlib.Omega.{arith}
use lib.IntN.{pos}
use lib.Ieee.{binary64, of_bits, of_int}
use Rattle.wire.specs.Wire.{number}
use Rattle.mta.proofs.Whole.{whole-taken}
use Rattle.rate.proofs.Settled.{euro}
use Rattle.import.specs.declared.NewRecord.{NewRecord}
use Rattle.import.specs.Import.{old_record, take_over, bytes_of, new_bytes, import_record, imported}
use Rattle.import_laws.specs.Moved.{Read}
use Rattle.import_laws.proofs.Written.{room_is, read_back}
use Rattle.std.specs.Prelude.{Ok}

abbrev pub old : List ℕ
old =
    0x09 ∷ 0x78 ∷ 0x08 ∷ 0x40 ∷
    0x3F ∷ 0xEB ∷ 0x33 ∷ 0x33 ∷ 0x33 ∷ 0x33 ∷ 0x33 ∷ 0x33 ∷
    0x40 ∷ 0xC8 ∷ 0x1C ∷ 0x80 ∷ 0 ∷ 0 ∷ 0 ∷ 0 ∷
    []

abbrev pub room : List ℕ
room = 0 ∷ 0 ∷ 0 ∷ 0 ∷ 0 ∷ 0 ∷ 0 ∷ 0 ∷ 0 ∷ 0 ∷ 0 ∷ 0 ∷ 0 ∷ 0 ∷ 0 ∷ 0xEE ∷ []

record_is : old_record old ≡ record { rate = of_bits binary64 0x3FEB_3333_3333_3333; mta = of_int binary64 (pos 12345); from = 0x0978; to = 0x0840 }
unfolding old_record number of_bits of_int
record_is = refl

abbrev new : NewRecord
new = record { mta = record { 0 = 12345 }; conversion = record { from = 0x0978; to = 0x0840; digits = 85; shift = 7 } }

taken : take_over (old_record old) ≡ Ok new
unfolding take_over
taken = rw record_is (rw (euro, whole-taken 12345 (omega arith)) refl)

pub done : import_record old room ≡ Ok tt
unfolding import_record
done = rw taken refl

pub bytes : imported old room
    ≡ 0x09 ∷ 0x78 ∷ 0x08 ∷ 0x40 ∷ 0x00 ∷ 0x55 ∷ 0x07 ∷ 0x00 ∷ 0x00 ∷ 0x00 ∷ 0x00 ∷ 0x00 ∷ 0x00 ∷ 0x30 ∷ 0x39 ∷ 0xEE ∷ []
unfolding new_bytes bytes_of
bytes = room_is old room new done taken

pub reads : Read old room
reads = read_back old room done
