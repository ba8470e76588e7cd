-- The Issuer Application Data, what it is read as, and what writing it answers and leaves (document 01, "CVR and IAD").
use Rattle.std.specs.Prelude.{ℕ, zero, suc, ◌+◌, ◌*◌, ◌/◌, ◌%◌, Bool, true, not, cond, ◌&&◌, List, [], ◌∷◌, ◌++◌, length, drop, replicate, leb, ltb, eqb, Err, Ok, Result}
use Rattle.money.specs.Money.{max}
use Rattle.refusal.specs.Refusal.{refusal_number}
use Rattle.refusal.specs.declared.Refusal.TheVariants.{OutOfRange, RoomTooSmall, NotAnIad}
use Rattle.wire.specs.Wire.{byte, number, pair_of, is_pair, pair_value}
use Rattle.iad.specs.declared.Cvr.{Cvr}
use Rattle.iad.specs.declared.Iad.{Iad}
use Rattle.refusal.specs.declared.Refusal.{Refusal}

abbrev pub cvr_bytes : Cvr → List ℕ
cvr_bytes cvr = cvr.byte1 ∷ cvr.byte2 ∷ cvr.byte3 ∷ cvr.byte4 ∷ cvr.byte5 ∷ []

-- the last 2n decimal digits of an amount, two to a byte
unfoldable pub pairs_of : ℕ → ℕ → List ℕ
pairs_of amount zero = []
pairs_of amount (suc n) = pairs_of (amount / 100) n ++ pair_of amount ∷ []

-- 0F, A5, key index, CVR (5), accumulator sent as 12 digits (6), two counters sent, 0F, profile, 14 zeros
unfoldable pub iad_bytes : Iad → List ℕ
iad_bytes iad =
    0x0F ∷ 0xA5 ∷ iad.key ∷ cvr_bytes iad.cvr
    ++ pairs_of iad.accumulator.0 6
    ++ iad.first ∷ iad.second ∷ 0x0F ∷ iad.profile ∷ replicate 14 0

unfoldable pub cvr_of : List ℕ → Cvr
cvr_of s = record { byte1 = byte s 3; byte2 = byte s 4; byte3 = byte s 5; byte4 = byte s 6; byte5 = byte s 7 }

-- the amount that the digits in n bytes from a place on write
unfoldable pub pairs_value : List ℕ → ℕ → ℕ → ℕ
pairs_value s at zero = 0
pairs_value s at (suc n) = pairs_value s at n * 100 + pair_value (byte s (at + n))

unfoldable pub iad_of : List ℕ → Iad
iad_of s =
    record {
      accumulator = record { 0 = pairs_value s 8 6 };
      key = byte s 2;
      cvr = cvr_of s;
      first = byte s 14;
      second = byte s 15;
      profile = byte s 17;
    }

-- n bytes from a place on are zeros: the number that they write is 0
abbrev pub are_zeros : List ℕ → ℕ → ℕ → Bool
are_zeros s at n = eqb (number s at n) 0

unfoldable pub has_fixed_bytes : List ℕ → Bool
has_fixed_bytes s = eqb (byte s 0) 0x0F && eqb (byte s 1) 0xA5 && eqb (byte s 16) 0x0F && are_zeros s 18 14

-- neither type field of byte 1 (b8-b7 and b6-b5) is 11, and byte 5 is zero
unfoldable pub is_cvr : Cvr → Bool
is_cvr cvr = not (eqb (cvr.byte1 / 64) 0b11) && not (eqb (cvr.byte1 / 16 % 4) 0b11) && eqb cvr.byte5 0

-- no digit in n bytes from a place on is above 9
unfoldable pub are_pairs : List ℕ → ℕ → ℕ → Bool
are_pairs s at zero = true
are_pairs s at (suc n) = are_pairs s at n && is_pair (byte s (at + n))

abbrev pub is_profile : ℕ → Bool
is_profile profile = leb 1 profile && leb profile 124

-- unreadable: length not 32, a fixed byte wrong, either type field 11, byte 8 not zero, a digit above 9, profile 0 or above 124
unfoldable pub is_iad : List ℕ → Bool
is_iad s = eqb (length s) 32 && has_fixed_bytes s && is_cvr (cvr_of s) && are_pairs s 8 6 && is_profile (byte s 17)

unfoldable pub read_iad : List ℕ → Result Iad Refusal
read_iad s = cond (is_iad s) (Ok (iad_of s)) (Err NotAnIad)

-- an accumulator of at most MAX, and no field whose bytes reading would refuse
unfoldable pub is_writable : Iad → Bool
is_writable iad = leb iad.accumulator.0 max && is_cvr iad.cvr && is_profile iad.profile

-- 6 then 7
unfoldable pub write_iad : Iad → List ℕ → Result Unit Refusal
write_iad iad room =
    cond (not (is_writable iad)) (Err OutOfRange) (cond (ltb (length room) 32) (Err RoomTooSmall) (Ok tt))

-- an accepted write sets the first 32 bytes and no other, a refusal changes none
abbrev pub room_after : Result Unit Refusal → Iad → List ℕ → List ℕ
room_after (Ok done) iad room = iad_bytes iad ++ drop 32 room
room_after (Err refusal) iad room = room

unfoldable pub written : Iad → List ℕ → List ℕ
written iad room = room_after (write_iad iad room) iad room

-- the numbers of the answers (document 01, "Refusal numbers")
abbrev pub read_number : Result Iad Refusal → ℕ
read_number (Ok iad) = 0
read_number (Err refusal) = refusal_number refusal

abbrev pub written_number : Result Unit Refusal → ℕ
written_number (Ok done) = 0
written_number (Err refusal) = refusal_number refusal
