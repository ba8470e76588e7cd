-- The line of a log record: "log", its number, and in hex and without separators the values of Tables 15-11 and 17-14 in their order.
use Rattle.std.specs.Prelude.{ℕ, zero, suc, ◌+◌, Bool, cond, List, [], ◌∷◌, ◌++◌, leb, length}
use Rattle.std.proofs.lemmas.List.Edits.{sets}
use Rattle.hex_digits.specs.Hex.{hex}
use Rattle.text.specs.Text.{line}
use Rattle.numerals.specs.Numeral.{numeral}
use Rattle.log_tail.specs.LogTail.{switches_in}
use Rattle.ring.specs.declared.Record.{Record}
use Rattle.log_fields.specs.declared.Form.{Form}
use Rattle.log_fields.specs.LogFields.{first_data, field_count, field_in}
use Rattle.log_values.specs.LogValues.{purchase_text, answer_text}

-- OF THE TABLE: its fields, so many of them
unfoldable pub field_texts : (paper tail : List ℕ) → Form → Record → ℕ → List ℕ
field_texts paper tail form kept zero = []
field_texts paper tail form kept (suc i) = field_texts paper tail form kept i ++ hex (field_in paper tail form kept i)

unfoldable pub fields_text : (paper tail : List ℕ) → Form → Record → List ℕ
fields_text paper tail form kept = field_texts paper tail form kept (field_count tail form kept)

unfoldable pub values_text : (paper tail : List ℕ) → Form → Record → List ℕ
values_text paper tail form kept =
    purchase_text (first_data paper form kept) form.dated ++ (answer_text (switches_in tail) kept ++ fields_text paper tail form kept)

-- "log"
abbrev pub word : List ℕ
word = 108 ∷ 111 ∷ 103 ∷ []

-- THE LINE
unfoldable pub log_line : (k : ℕ) (paper tail : List ℕ) → Form → Record → List ℕ
log_line k paper tail form kept = line word (numeral k ∷ values_text paper tail form kept ∷ [])

-- its first two fields, a space behind each
abbrev pub heading : (k : ℕ) → List ℕ
heading k = (word ++ 32 ∷ []) ++ (numeral k ++ 32 ∷ [])

-- the most bytes that a line has: 4 + 3 + 1 for the heading, 22 and 16 for 11 and 8 bytes, 255 fields of 24 bytes, the line feed
abbrev pub longest : ℕ
longest = 12287

abbrev pub has_room : (bytes at : ℕ) → Bool
has_room bytes at = leb (at + longest) bytes

-- the line stands in the room from a place on, and all else stays; where the longest line would not fit all stays
unfoldable pub placed : (room : List ℕ) (at : ℕ) (text : List ℕ) → List ℕ
placed room at text = cond (has_room (length room) at) (sets room at text) room

-- the place behind it, or the same place
unfoldable pub place_behind : (bytes at : ℕ) (text : List ℕ) → ℕ
place_behind bytes at text = cond (has_room bytes at) (at + length text) at
