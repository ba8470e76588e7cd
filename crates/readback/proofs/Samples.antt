-- The statements at single inputs, by computation: line 2 of the printed sitting, and what differs from it in one byte. Assumes nothing.
use mathlib.Core.Bool.{Bool, true, false, not, ◌&&◌}
use lib.Dec.{T, eqb}
use mathlib.Core.Path.{◌≡◌, refl}
use mathlib.Core.List.{List, [], ◌∷◌}
use Prim.Native.Nat.{ℕ}
use native.Mathlib.Omega.{arith}
use lib.ListN.{replicate}
use Rattle.iad.specs.declared.Iad.{Iad}
use Rattle.iad.specs.Iad.{cvr_of, pairs_value, iad_of, has_fixed_bytes, is_cvr, are_pairs, is_iad, read_iad, read_number}
use Rattle.iad.specs.Iad.{pairs_of, iad_bytes, is_writable, write_iad, written, written_number}
use Rattle.wire.specs.Wire.{number}
use Rattle.hex_digits.specs.Hex.{hex}
use Rattle.lines.specs.Lines.{digit, decimal, start_line, cryptogram_line}
use Rattle.readback.specs.WellFormed.{WellFormed, Writable, OfBytes, LaidOut}
use Rattle.readback.specs.Fields.{words_in, are_digits, value_in, is_hex, bytes_in, Fields, Two, Three, Four, Five, Other, fields_in}
use Rattle.readback.proofs.Readable.{exactly_readable, exactly-read}
use Rattle.readback.proofs.Told.{cryptogram-told}
use Rattle.std.specs.Prelude.{Ok}

-- the bytes of line 2, with byte 1 and byte 5 of the CVR, the pair of digits 50 and the profile left open
abbrev like : ℕ → ℕ → ℕ → ℕ → List ℕ
like byte1 byte5 pair profile =
    0x0F ∷ 0xA5 ∷ 0x01 ∷ byte1 ∷ 0x30 ∷ 0x00 ∷ 0x00 ∷ byte5 ∷ 0x00 ∷ 0x00 ∷ 0x00 ∷ 0x00 ∷ pair ∷ 0x00 ∷ 0x01 ∷ 0x00 ∷ 0x0F ∷ profile
    ∷ replicate 14 0x00

abbrev bytes : List ℕ
bytes = like 0x90 0x00 0x50 0x01

-- the fields of line 2, with byte 1 of the CVR left open
abbrev fields : ℕ → Iad
fields byte1 =
    record {
      accumulator = record { 0 = 5000 };
      key = 0x01;
      cvr = record { byte1 = byte1; byte2 = 0x30; byte3 = 0x00; byte4 = 0x00; byte5 = 0x00 };
      first = 1;
      second = 0;
      profile = 1;
    }

pub sample_read : read_iad bytes ≡ Ok (fields 0x90)
unfolding read_iad is_iad has_fixed_bytes number is_cvr cvr_of are_pairs iad_of pairs_value
sample_read = refl

-- so the premises of the statements can be met
pub sample_formed : WellFormed bytes
sample_formed = (exactly_readable bytes).0 (rw sample_read)

pub sample_held : Writable (fields 0x90) × LaidOut (fields 0x90) bytes
sample_held = (exactly-read bytes (fields 0x90)).0 sample_read

pub sample_told : fields_in (cryptogram_line 2 0x40 1 (fields 0x90)) ≡ Five 2 0 (0x40 ∷ []) 1 bytes
sample_told =
    let (writable, laid) = sample_held in
    let small : OfBytes (fields 0x90) =
    record { key = omega arith; cvr1 = omega arith; cvr2 = omega arith; cvr3 = omega arith; cvr4 = omega arith; first = omega arith; second = omega arith } in
    cryptogram-told 2 (omega arith) 0x40 1 (fields 0x90) bytes (omega arith) (omega arith) writable small laid

-- ---- what is compared

abbrev same : List ℕ → List ℕ → Bool
same [] [] = true
same [] (b ∷ t) = false
same (a ∷ s) [] = false
same (a ∷ s) (b ∷ t) = eqb a b && same s t

-- the fields of a Start's line, and of a cryptogram's
abbrev is_three : Fields → (number refusal atc : ℕ) → Bool
is_three (Two n r) number refusal atc = false
is_three (Three n r a) number refusal atc = eqb n number && eqb r refusal && eqb a atc
is_three (Four n r a v) number refusal atc = false
is_three (Five n r c a i) number refusal atc = false
is_three Other number refusal atc = false

abbrev is_five : Fields → (number refusal : ℕ) (cid : List ℕ) (atc : ℕ) (iad : List ℕ) → Bool
is_five (Two n r) number refusal cid atc iad = false
is_five (Three n r a) number refusal cid atc iad = false
is_five (Four n r a v) number refusal cid atc iad = false
is_five (Five n r c a i) number refusal cid atc iad = eqb n number && eqb r refusal && same c cid && eqb a atc && same i iad
is_five Other number refusal cid atc iad = false

-- `exactly-unreadable`, `exactly-six` and what is told, at single inputs
pub record Samples : Type 0 where
  pub first_type : T (eqb (read_number (read_iad (like 0xB0 0x00 0x50 0x01))) 8)
  pub second_type : T (eqb (read_number (read_iad (like 0xD0 0x00 0x50 0x01))) 8)
  pub byte_8 : T (eqb (read_number (read_iad (like 0x90 0x01 0x50 0x01))) 8)
  pub digit-above : T (eqb (read_number (read_iad (like 0x90 0x00 0x5A 0x01))) 8)
  pub profile_125 : T (eqb (read_number (read_iad (like 0x90 0x00 0x50 125))) 8)
  pub profile_0 : T (eqb (read_number (read_iad (like 0x90 0x00 0x50 0))) 8)
  pub first_type_unwritten : T (eqb (written_number (write_iad (fields 0xB0) (replicate 32 0))) 6)
  pub six_before_seven : T (eqb (written_number (write_iad (fields 0xB0) [])) 6)
  pub start-line : T (is_three (fields_in (start_line 12 65_535)) 12 0 65_535)
  pub cryptogram-line : T (is_five (fields_in (cryptogram_line 2 0x40 1 (fields 0x90))) 2 0 (0x40 ∷ []) 1 bytes)

pub samples : Samples
unfolding read_iad is_iad has_fixed_bytes number is_cvr cvr_of are_pairs iad_of pairs_value write_iad is_writable written iad_bytes pairs_of start_line
    cryptogram_line decimal digit hex fields_in words_in are_digits value_in is_hex bytes_in
samples =
    record {
      first_type = tt;
      second_type = tt;
      byte_8 = tt;
      digit-above = tt;
      profile_125 = tt;
      profile_0 = tt;
      first_type_unwritten = tt;
      six_before_seven = tt;
      start-line = tt;
      cryptogram-line = tt;
    }
