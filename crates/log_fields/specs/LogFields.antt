-- A log record's data in the paper, and its fields (document 02, Eight): data is a command's body as it lies in the paper, its type byte being
-- position 1.
use Rattle.std.specs.Prelude.{ℕ, ◌+◌, Bool, cond, not, List, leb, eqb, length, take, drop}
use Rattle.std.specs.Borrow.{Bor}
use Rattle.log_tail.specs.declared.Entry.{Entry}
use Rattle.log_tail.specs.LogTail.{entry_count, entry_at}
use Rattle.field.specs.Field.{field_of, field_place}
use Rattle.ring.specs.declared.Record.{Record}
use Rattle.log_fields.specs.declared.Form.{Form}

-- First's body: type, amount (8), currency (2), terminal type; a date (3) where the paper is dated; CVM results (3) and cashback (6) of a CPACE card
abbrev pub first_length : Form → ℕ
first_length form = 12 + cond form.dated 3 0 + cond form.cpace 9 0

-- so many bytes of the paper from a place on, or as many as there are; and where they lie
unfoldable pub part_of : (paper : List ℕ) (at bytes : ℕ) → List ℕ
part_of paper at bytes = take bytes (drop at paper)

unfoldable pub part_place : (paper : Bor (List ℕ)) (at : ℕ) → ℕ × ℕ
part_place paper at = cond (leb at (length paper.now)) (paper.ref_ptr.0, paper.ref_ptr.1 + at) paper.ref_ptr

-- a record of Second has a place for it, and one of First has 0
abbrev pub is_of_second : Record → Bool
is_of_second kept = not (eqb kept.second 0)

-- ITS DATA
abbrev pub first_data : (paper : List ℕ) → Form → Record → List ℕ
first_data paper form kept = part_of paper kept.first (first_length form)

abbrev pub first_data_place : (paper : Bor (List ℕ)) → Record → ℕ × ℕ
first_data_place paper kept = part_place paper kept.first

abbrev pub second_data : (paper : List ℕ) → Record → List ℕ
second_data paper kept = part_of paper kept.second (cond (is_of_second kept) 8 0)

abbrev pub second_data_place : (paper : Bor (List ℕ)) → Record → ℕ × ℕ
second_data_place paper kept = part_place paper kept.second

-- ITS FIELDS, by First's table or Second's
abbrev pub field_count : (tail : List ℕ) → Form → Record → ℕ
field_count tail form kept = entry_count tail form.profiles (is_of_second kept)

abbrev pub field_entry : (tail : List ℕ) → Form → Record → (i : ℕ) → Entry
field_entry tail form kept i = entry_at tail form.profiles (is_of_second kept) i

unfoldable pub field_in : (paper tail : List ℕ) → Form → Record → (i : ℕ) → List ℕ
field_in paper tail form kept i =
    let entry = field_entry tail form kept i in
    field_of (first_data paper form kept) (second_data paper kept) entry.source entry.position entry.length

-- and where it lies in the paper: the data as a part of it
abbrev pub part_ref : (place : ℕ × ℕ) (bytes : List ℕ) → Bor (List ℕ)
part_ref place bytes = record { ref_ptr = place; now = bytes }

unfoldable pub field_place_in : (paper : Bor (List ℕ)) (tail : List ℕ) → Form → Record → (i : ℕ) → ℕ × ℕ
field_place_in paper tail form kept i =
    let entry = field_entry tail form kept i in
    let first = part_ref (first_data_place paper kept) (first_data paper.now form kept) in
    let second = part_ref (second_data_place paper kept) (second_data paper.now kept) in
    field_place first second entry.source entry.position entry.length
