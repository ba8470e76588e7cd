-- What reading a line by a row of the grammar answers: the place behind its last word, and what it says is put; or the place of
-- the first word that is wrong, and the place of the grammar of what was expected for it.
use Rattle.std.specs.Prelude.{◌≡◌, ℕ, suc, ◌%◌, ◌^◌, ◌≤◌, Bool, true, false, cond, not, ◌&&◌, ◌||◌, List, [], ◌∷◌, length, nat_le, Result, Ok, Err}
use Rattle.words.specs.Words.{word, same, up_to, is_empty, begins, tail, read_flags}
use Rattle.words.specs.Put.{Put}
use Rattle.lexing.specs.Places.{word_at, words_at, below_at, ends_line, after_word}
use Rattle.forms.specs.Form.{Part, say, count, bytes, named, date, code, Form, done, rest, may, part, bits, either, big_endian, fine}
use Rattle.forms.specs.Form.{Want, a_part, line_end, hex_pairs, Read, Said, Wrong, before, one, first_word}
use Rattle.forms.specs.Grammar.{form_in}
use Rattle.forms.specs.Table.{Got, Took, Bad}
use Rattle.walk.specs.declared.Mark.{Mark as Kind}
use Rattle.walk.specs.declared.Mark.TheVariants.{End, Rest, MayEnd, Opens, Silent, Names, Flags, Number, Bytes, Date, Code, Word}
use Rattle.read_forms.specs.Places.{left_at, Onward}
use Rattle.read_forms.specs.declared.Reached.{Reached}
use Rattle.read_forms.specs.declared.Fault.{Fault}

-- ---- rows that the code reads

-- the flags of a row fit 64 bits
abbrev pub narrow : Form → Bool
narrow done = true
narrow rest = true
narrow (may f) = narrow f
narrow (part p f) = narrow f
narrow (bits n vs f) = nat_le (length vs) 64 && narrow f
narrow (either f g) = narrow f && narrow g

-- a clause begins with a word that it says
abbrev pub clauses : List (List ℕ) → Bool
clauses [] = true
clauses (w ∷ ws) = (not (same w (word "(")) || begins (first_word (form_in ws)) ws) && clauses ws

unfoldable pub is_row : List (List ℕ) → Bool
is_row ws = fine (form_in ws) && narrow (form_in ws) && clauses ws

-- ---- what is expected

abbrev pub form_at : List ℕ → ℕ → Form
form_at grammar t = form_in (words_at grammar t)

-- by a form's first part
abbrev pub want_of : Form → Want
want_of done = line_end
want_of rest = hex_pairs
want_of (may f) = line_end
want_of (part p f) = a_part p
want_of (bits n vs f) = a_part (bytes n)
want_of (either f g) = line_end

abbrev pub want_at : List ℕ → ℕ → Want
want_at grammar t = want_of (form_at grammar t)

-- ---- what is answered

-- names of bits read: the bits, in 64, and the place behind the names
pub record Gathered (text : List ℕ) (from : ℕ) (names : List (List ℕ)) (bits at : ℕ) : Type 0 where
  pub are : bits ≡ (read_flags names (words_at text from)).bits % 2 ^ 64
  pub left : words_at text at ≡ (read_flags names (words_at text from)).left
  pub onward : Onward text from at

pub record Ended (text : List ℕ) (from : ℕ) (room : List ℕ) (to : ℕ) (said : List ℕ) (at end : ℕ) (after : List ℕ) : Type 0 where
  pub place : at ≡ left_at text from 0
  pub put : Put room to said end after

pub record Offence (text : List ℕ) (from : ℕ) (wants : ℕ → Want) (left : ℕ) (want : Want) (at t : ℕ) : Type 0 where
  pub place : at ≡ left_at text from left
  pub wanted : wants t ≡ want
  pub few : left ≤ length (words_at text from)

abbrev pub reached : (at end : ℕ) → Result Reached Fault
reached at end = Ok (record { at = at; end = end })

abbrev pub amiss : (at want : ℕ) → Result Reached Fault
amiss at want = Err (record { at = at; want = want })

-- of a line, from behind a word on
unfoldable pub Heard : List ℕ → ℕ → (ℕ → Want) → List ℕ → ℕ → Read → Result Reached Fault → List ℕ → Type 0
Heard text from wants room to (Said b) (Ok r) after = Ended text from room to b r.at r.end after
Heard text from wants room to (Said b) (Err f) after = ⊥
Heard text from wants room to (Wrong n w) (Ok r) after = ⊥
Heard text from wants room to (Wrong n w) (Err f) after = Offence text from wants n w f.at f.want

-- ---- a part of a line, whatever follows

pub record Passed (reads : (List (List ℕ) → Read) → Read) (text : List ℕ) (from : ℕ) (room : List ℕ) (to at end : ℕ) (after : List ℕ) : Type 0 where
  pub said : List ℕ
  pub is : (next : List (List ℕ) → Read) → reads next ≡ before said (next (words_at text at))
  pub put : Put room to said end after
  pub onward : Onward text from at

pub record Stopped (reads : (List (List ℕ) → Read) → Read) (text : List ℕ) (from : ℕ) (wants : ℕ → Want) (at t : ℕ) : Type 0 where
  pub left : ℕ
  pub want : Want
  pub is : (next : List (List ℕ) → Read) → reads next ≡ Wrong left want
  pub offence : Offence text from wants left want at t

unfoldable pub Piece : ((List (List ℕ) → Read) → Read) → List ℕ → ℕ → (ℕ → Want) → List ℕ → ℕ → Result Reached Fault → List ℕ → Type 0
Piece reads text from wants room to (Ok r) after = Passed reads text from room to r.at r.end after
Piece reads text from wants room to (Err f) after = Stopped reads text from wants f.at f.want

-- the names from a place on, of a byte and of bits
abbrev pub names_at : List ℕ → ℕ → List (List ℕ)
names_at grammar t = up_to (word "]") (words_at grammar t)

abbrev pub flags_at : List ℕ → ℕ → List (List ℕ)
flags_at grammar t = up_to (word "}") (words_at grammar t)

-- the part of a mark: its word, and the words behind it
abbrev pub part_by : Kind → List ℕ → List (List ℕ) → Part
part_by End w ws = say w
part_by Rest w ws = say w
part_by MayEnd w ws = say w
part_by Opens w ws = say w
part_by Silent w ws = say w
part_by Names w ws = named (up_to (word "]") ws)
part_by (Flags n) w ws = say w
part_by (Number n) w ws = count n
part_by (Bytes n) w ws = bytes n
part_by Date w ws = date
part_by Code w ws = code
part_by Word w ws = say w

abbrev pub part_at : List ℕ → ℕ → Kind → Part
part_at grammar t m = part_by m (word_at grammar t) (words_at grammar (after_word grammar t))

-- names, or "bits" and the bytes
unfoldable pub flags_then : ℕ → List (List ℕ) → List (List ℕ) → (List (List ℕ) → Read) → Read
flags_then n vs ws next =
    cond (begins (word "bits") ws) (one (bytes n) (tail ws) next)
    (before (big_endian n (read_flags vs ws).bits) (next (read_flags vs ws).left))

-- a word begins here, or the line ends
abbrev pub Begins : List ℕ → ℕ → Type 0
Begins text at = ends_line text at ≡ false → is_empty (word_at text at) ≡ false

-- ---- lines

-- so many lines are left from this one on, and so many words of it
pub record BadLine (text : List ℕ) (wants : ℕ → Want) (lines words : ℕ) (want : Want) (at t : ℕ) : Type 0 where
  pub lines_left : suc (length (below_at text at)) ≡ lines
  pub words_left_lem : length (words_at text at) ≡ words
  pub wanted : wants t ≡ want

-- of lines: what they say is put, and the lines below the place are left; or the place of the first word that is wrong
unfoldable pub Met : List ℕ → (ℕ → Want) → List ℕ → ℕ → Got → Result Reached Fault → List ℕ → Type 0
Met text wants room to (Took b ls) (Ok r) after = (below_at text r.at ≡ ls) × Put room to b r.end after
Met text wants room to (Took b ls) (Err f) after = ⊥
Met text wants room to (Bad n m w) (Ok r) after = ⊥
Met text wants room to (Bad n m w) (Err f) after = BadLine text wants n m w f.at f.want
