-- The lines of a sitting as bytes, and the room that they are placed in (document 01, "A sitting in full").
use Rattle.std.specs.Prelude.{cond, List, [], ◌∷◌, ◌++◌, ℕ, ◌+◌, ◌/◌, ◌%◌, leb, ltb, length, take, drop, replicate}
use Rattle.iad.specs.declared.Iad.{Iad}
use Rattle.iad.specs.Iad.{written}
use Rattle.hex_digits.specs.Hex.{hex_byte, hex}
use Rattle.text.specs.Text.{line}

-- the digit of a unit (1, 10, 100, ..), none where the number is smaller
unfoldable pub digit : ℕ → ℕ → List ℕ
digit n unit = cond (ltb n unit) [] ((48 + n / unit % 10) ∷ [])

-- a number below 100,000: no zero in front, and 0 is "0"
unfoldable pub decimal : ℕ → List ℕ
decimal n = digit n 10_000 ++ digit n 1_000 ++ digit n 100 ++ digit n 10 ++ (48 + n % 10) ∷ []

-- record number, refusal
unfoldable pub refusal_line : ℕ → ℕ → List ℕ
refusal_line number refusal = line (decimal number) (decimal refusal ∷ [])

-- after Start: record number, 0, ATC
unfoldable pub start_line : ℕ → ℕ → List ℕ
start_line number atc = line (decimal number) (decimal 0 ∷ decimal atc ∷ [])

-- after a Start that selected its profile: record number, 0, ATC, the entries visited
unfoldable pub selected_line : ℕ → ℕ → ℕ → List ℕ
selected_line number atc visits = line (decimal number) (decimal 0 ∷ decimal atc ∷ decimal visits ∷ [])

-- after First or Second: record number, 0, CID in hex, ATC, the IAD written into 32 zeros in hex
unfoldable pub cryptogram_line : ℕ → ℕ → ℕ → Iad → List ℕ
cryptogram_line number cid atc iad =
    line (decimal number) (decimal 0 ∷ hex_byte cid ∷ decimal atc ∷ hex (written iad (replicate 32 0)) ∷ [])

-- 5 + 1 + 1 + 1 + 2 + 1 + 5 + 1 + 64 + 1: the most bytes that a line has
abbrev pub longest : ℕ
longest = 82

-- the room after a line: from the place on it holds the line, and all else stays; where the longest line would not fit all stays
unfoldable pub placed : List ℕ → ℕ → List ℕ → List ℕ
placed room at text =
    cond (leb (at + longest) (length room)) (take at room ++ text ++ drop (at + length text) room) room

-- the place behind a line in a room of some bytes, or the same place where the longest line would not fit
unfoldable pub place_behind : ℕ → ℕ → List ℕ → ℕ
place_behind bytes at text = cond (leb (at + longest) bytes) (at + length text) at
