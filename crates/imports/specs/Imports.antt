-- What is printed of old records (document 02, request Two): a line for each, numbered from 1.
use Rattle.std.specs.Prelude.{Bool, cond, ◌&&◌, List, [], ◌∷◌, ◌++◌, ℕ, zero, suc, ◌+◌, ◌*◌, ◌/◌, ◌%◌, ltb, leb, length, take, drop, replicate, Err, None, Ok, Option, Result, Some}
use Rattle.std.proofs.lemmas.List.Edits.{sets}
use Rattle.refusal.specs.Refusal.{refusal_number}
use Rattle.hex_digits.specs.Hex.{hex}
use Rattle.text.specs.Text.{line}
use Rattle.import.specs.Import.{import_record, imported}
use Rattle.imports.specs.declared.Answered.{Answered}
use Rattle.refusal.specs.declared.Refusal.{Refusal}

-- a number of at most so many digits: no zero in front, and 0 is "0"
unfoldable pub digits_of : (most n : ℕ) → List ℕ
digits_of zero n = []
digits_of (suc most) n = cond (ltb n 10) [] (digits_of most (n / 10)) ++ (48 + n % 10) ∷ []

abbrev pub numeral : ℕ → List ℕ
numeral n = digits_of 20 n

-- behind the number "0" and the new record's bytes in hex, or the refusal
abbrev pub import_line : (number : ℕ) → Result Unit Refusal → (new : List ℕ) → List ℕ
import_line number (Ok done) new = line (numeral number) ((48 ∷ []) ∷ hex new ∷ [])
import_line number (Err refusal) new = line (numeral number) (numeral (refusal_number refusal) ∷ [])

unfoldable pub record_line : (number : ℕ) (old : List ℕ) → List ℕ
record_line number old = import_line number (import_record old (replicate 15 0)) (imported old (replicate 15 0))

-- a record has 20 bytes; the last may be shorter
abbrev pub records_in : (bytes : ℕ) → ℕ
records_in bytes = (bytes + 19) / 20

-- the lines of n records
unfoldable pub lines_in : (n number : ℕ) (input : List ℕ) → List ℕ
lines_in zero number input = []
lines_in (suc n) number input = record_line number (take 20 input) ++ lines_in n (number + 1) (drop 20 input)

unfoldable pub imports_from : (number : ℕ) (input : List ℕ) → List ℕ
imports_from number input = lines_in (records_in (length input)) number input

abbrev pub imports_of : (input : List ℕ) → List ℕ
imports_of input = imports_from 1 input

-- 20 + 1 + 1 + 1 + 30 + 1: the most bytes that a line has
abbrev pub longest_line : ℕ
longest_line = 54

-- the room has so many for each record, and no number is above a u64
abbrev pub fits : (number room bytes : ℕ) → Bool
fits number room bytes = leb (longest_line * records_in bytes) room && leb (number + records_in bytes) 18_446_744_073_709_551_615

-- where the lines end and the number behind theirs; the room, which holds them from its start on; where they do not fit all stays
unfoldable pub answered : (number : ℕ) (input : List ℕ) (room : ℕ) → Option Answered
answered number input room =
    cond (fits number room (length input)) (Some (record { end = length (imports_from number input); next = number + records_in (length input) })) None

unfoldable pub room_after : (number : ℕ) (input room : List ℕ) → List ℕ
room_after number input room = cond (fits number (length room) (length input)) (sets room 0 (imports_from number input)) room
