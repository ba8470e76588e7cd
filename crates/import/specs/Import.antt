-- Old records and what they become (document 02, request Two).
use Rattle.std.specs.Prelude.{ℕ, zero, suc, ◌/◌, ◌%◌, Bool, not, cond, ◌&&◌, List, [], ◌∷◌, ◌++◌, length, drop, eqb, ltb, Err, None, Ok, Option, Result, Some}
use Rattle.std.specs.Float.{binary64}
use Rattle.std.specs.Float.Ieee.{of_bits}
use Rattle.wire.specs.Wire.{number, is_currency}
use Rattle.money.specs.declared.Rate.{Rate}
use Rattle.mta.specs.Mta.{mta_of}
use Rattle.rate.specs.Rate.{rate_of}
use Rattle.refusal.specs.Refusal.{refusal_number}
use Rattle.refusal.specs.declared.Refusal.TheVariants.{OutOfRange, RoomTooSmall, Unreadable, BadRate, BadMta}
use Rattle.import.specs.declared.OldRecord.{OldRecord}
use Rattle.import.specs.declared.NewRecord.{NewRecord}
use Rattle.money.specs.declared.AccumulatorAmount.{AccumulatorAmount}
use Rattle.rate.specs.declared.Pair.{Pair}
use Rattle.refusal.specs.declared.Refusal.{Refusal}

-- 20 bytes, big-endian: from and to (2 each), rate, MTA, both 64-bit floats
unfoldable pub old_record : List ℕ → OldRecord
old_record old =
    record { rate = of_bits binary64 (number old 4 8); mta = of_bits binary64 (number old 12 8); from = number old 0 2; to = number old 2 2 }

-- both three digits, and from not equal to to
abbrev pub are_currencies : ℕ → ℕ → Bool
are_currencies from to = is_currency from && is_currency to && not (eqb from to)

-- 6 a currency not three digits, or from equal to to; 10 rate; 11 MTA
abbrev pub with_mta : Rate → Option AccumulatorAmount → Result NewRecord Refusal
with_mta conversion (Some mta) = Ok (record { mta = mta; conversion = conversion })
with_mta conversion None = Err BadMta

abbrev pub with_rate : OldRecord → Option Pair → Result NewRecord Refusal
with_rate old (Some pair) =
    with_mta (record { from = old.from; to = old.to; digits = pair.digits; shift = pair.shift }) (mta_of old.mta)
with_rate old None = Err BadRate

unfoldable pub take_over : OldRecord → Result NewRecord Refusal
take_over old = cond (are_currencies old.from old.to) (with_rate old (rate_of old.rate)) (Err OutOfRange)

-- the last bytes of a number, big-endian
unfoldable pub bytes_of : ℕ → ℕ → List ℕ
bytes_of number zero = []
bytes_of number (suc n) = bytes_of (number / 256) n ++ number % 256 ∷ []

-- a 7-byte conversion (from, to, d (2 each), s + 9 (1)) and an 8-byte MTA
unfoldable pub new_bytes : NewRecord → List ℕ
new_bytes new =
    bytes_of new.conversion.from 2 ++ bytes_of new.conversion.to 2 ++ bytes_of new.conversion.digits 2
    ++ new.conversion.shift ∷ bytes_of new.mta.0 8

-- 9 not 20 bytes; 6, 10 and 11 as above; 7 room under 15 bytes
abbrev pub in_room : Result NewRecord Refusal → List ℕ → Result Unit Refusal
in_room (Err refusal) room = Err refusal
in_room (Ok new) room = cond (ltb (length room) 15) (Err RoomTooSmall) (Ok tt)

unfoldable pub import_record : List ℕ → List ℕ → Result Unit Refusal
import_record old room = cond (eqb (length old) 20) (in_room (take_over (old_record old)) room) (Err Unreadable)

-- success sets the first 15 bytes only, a refusal keeps the room's bytes
abbrev pub room_after : Result Unit Refusal → Result NewRecord Refusal → List ℕ → List ℕ
room_after (Err refusal) taken room = room
room_after (Ok done) (Err refusal) room = room
room_after (Ok done) (Ok new) room = new_bytes new ++ drop 15 room

unfoldable pub imported : List ℕ → List ℕ → List ℕ
imported old room = room_after (import_record old room) (take_over (old_record old)) room

-- the numbers of the answers
abbrev pub taken_number : Result NewRecord Refusal → ℕ
taken_number (Ok new) = 0
taken_number (Err refusal) = refusal_number refusal

abbrev pub imported_number : Result Unit Refusal → ℕ
imported_number (Ok done) = 0
imported_number (Err refusal) = refusal_number refusal
