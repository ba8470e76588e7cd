-- What a printed line of a sitting says, read back from its bytes (document 01, "A sitting in full"): words with one space (32) between them.
use Rattle.std.specs.Prelude.{ℕ, ◌+◌, ◌*◌, ◌%◌, Bool, cond, List, [], ◌∷◌, eqb, leb, ltb, length, None, Option, Some}
use Rattle.wire.specs.Wire.{byte}
use Rattle.state.specs.declared.Kind.{Kind}
use Rattle.state.specs.declared.Kind.TheVariants.{Aac, Tc, Arqc}
use Rattle.journal.specs.declared.Cryptogram.{Cryptogram}
unfoldable pub use Rattle.pieces.specs.Pieces.{place_of, before, behind, behind_place}

-- A BYTE by its two hex digits: "0" (48) to "9" (57), "A" (65) to "F" (70)
abbrev pub digit_value : (digit : ℕ) → ℕ
digit_value digit = cond (leb digit 57) (digit % 16) (digit % 16 + 9)

unfoldable pub pair_at : (digits : List ℕ) (at : ℕ) → ℕ
pair_at digits at = digit_value (byte digits at) * 16 + digit_value (byte digits (at + 1))

-- A NUMBER in decimal, of which the last five digits count
unfoldable pub decimal_from : (front : ℕ) (digits : List ℕ) → ℕ
decimal_from front [] = front
decimal_from front (digit ∷ digits) = decimal_from ((front * 10 + digit % 16) % 100_000) digits

abbrev pub decimal_in : (digits : List ℕ) → ℕ
decimal_in digits = decimal_from 0 digits

-- A CRYPTOGRAM: the line's third word is the CID, of which the first digit tells; then ATC and IAD. In the IAD the CVR's bytes are the fourth to
-- the eighth, and the profile's is the eighteenth
abbrev pub kind_in : (cid : List ℕ) → Kind
kind_in cid = cond (eqb (byte cid 0) 48) Aac (cond (eqb (byte cid 0) 52) Tc Arqc)

unfoldable pub cvr_in : (iad : List ℕ) → ℕ
cvr_in iad = (((pair_at iad 6 * 256 + pair_at iad 8) * 256 + pair_at iad 10) * 256 + pair_at iad 12) * 256 + pair_at iad 14

abbrev pub given_in : (cid atc iad : List ℕ) → Option Cryptogram
given_in cid atc iad =
    cond (ltb (length iad) 64) None
    (Some (record { kind = kind_in cid; atc = decimal_in (before 32 atc); profile = pair_at iad 34 % 256; cvr = cvr_in iad }))

unfoldable pub reply_in : (line : List ℕ) → Option Cryptogram
reply_in line =
    let cid = behind 32 (behind 32 line) in
    let atc = behind 32 cid in
    given_in cid atc (behind 32 atc)

-- A REFUSAL THAT ENDS THE PAPER, 9: the second word begins with "9" (57), as that of no other refusal does
unfoldable pub is_ending : (line : List ℕ) → Bool
is_ending line = eqb (byte (behind 32 line) 0) 57
