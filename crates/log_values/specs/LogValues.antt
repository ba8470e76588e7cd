-- The values of a log record that every table has, in hex: of First's data and of the answer.
use Rattle.std.specs.Prelude.{ℕ, ◌+◌, ◌/◌, ◌%◌, Bool, cond, List, [], ◌∷◌, ◌++◌, eqb, length}
use Rattle.std.proofs.lemmas.List.Edits.{sets}
use Rattle.wire.specs.Wire.{byte, number}
use Rattle.text.specs.Text.{fits}
use Rattle.hex_digits.specs.Hex.{hex}
use Rattle.iad.specs.Iad.{pairs_of}
use Rattle.ring.specs.declared.Record.{Record}
use Rattle.log_bytes.specs.LogBytes.{octets, date_bytes}

-- OF FIRST'S DATA: the amount (8, behind the type) as 12 digits, the currency (2), the date (3)
unfoldable pub purchase_text : (first : List ℕ) (dated : Bool) → List ℕ
purchase_text first dated = hex (pairs_of (number first 1 8) 6) ++ (hex (byte first 9 ∷ byte first 10 ∷ []) ++ hex (date_bytes first dated))

-- OF THE ANSWER: CVR (5), ATC (2), CID (1), each where its switch is on: 04, 10, 08
abbrev pub if_on : (switches switch : ℕ) (bytes : List ℕ) → List ℕ
if_on switches switch bytes = cond (eqb (switches / switch % 2) 1) bytes []

unfoldable pub answer_text : (switches : ℕ) → Record → List ℕ
answer_text switches kept =
    hex (if_on switches 0x04 (octets 5 kept.cvr))
    ++ (hex (if_on switches 0x10 (octets 2 kept.atc)) ++ hex (if_on switches 0x08 (octets 1 kept.cid)))

-- a text that has most bytes at most stands in the room from a place on, and all else stays; where so many would not fit all stays
unfoldable pub placed : (most : ℕ) (room : List ℕ) (at : ℕ) (text : List ℕ) → List ℕ
placed most room at text = cond (fits (length room) at most) (sets room at text) room

-- the place behind it, or the same place
unfoldable pub place_behind : (most bytes at : ℕ) (text : List ℕ) → ℕ
place_behind most bytes at text = cond (fits bytes at most) (at + length text) at
