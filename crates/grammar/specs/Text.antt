-- A paper as text, both ways.
use Rattle.std.specs.Prelude.{Bool, cond, not, ◌&&◌, ◌||◌, List, [], ◌∷◌, ◌++◌, ℕ, zero, suc, ◌+◌, ◌-◌, ◌/◌, ◌%◌, leb, eqb, length, drop}
use Rattle.wire.specs.Wire.{byte}
use Rattle.paper.specs.Paper.{latest}
use Rattle.paper.specs.Walk.{Met, met_in, place_in}
use Rattle.layout.specs.Layout.{profiles, conversions, atc, head_length, profile_length, conversion_length, profile_from, base_length}
use Rattle.words.specs.Words.{is_empty}
use Rattle.words.specs.Lex.{Line, text_of, Lexed, flush, lex, lines_in}
use Rattle.forms.specs.Form.{Want, a_record, a_paper, shorter}
use Rattle.forms.specs.Table.{field_line, print_fields, print_groups, Got, Took, Bad, bind, joined, leads, read_line, read_fields, read_groups, bad_line}
use Rattle.forms.specs.Tail.{known, are_switched, tails_size, print_tails, read_tails}
use Rattle.forms.specs.Row.{print_by, read_by}
use Rattle.grammar.specs.Rows.{paper, setup, first, second, profile, conversion, tails, records, any_record, raw}

-- ---- printed

-- a set-up's body that words say: the version is known, each switch is 0 or 1, and it ends with its tails
unfoldable pub is_worded : ℕ → List ℕ → Bool
is_worded v s =
    leb 1 v && leb v latest
    && are_switched (byte s profiles) (known v tails) s (base_length s)
    && eqb (length s) (base_length s + tails_size (byte s profiles) (known v tails) s (base_length s))

unfoldable pub print_setup : ℕ → List ℕ → List Line
print_setup v s =
    field_line 0 setup s 0
    ∷ print_fields 2 first s 0
    ++ (print_fields 2 second s atc
    ++ (print_groups 2 profile (byte s profiles) s head_length
    ++ (print_groups 2 conversion (byte s conversions) s (profile_from (byte s profiles))
    ++ print_tails (byte s profiles) (known v tails) s (base_length s))))

unfoldable pub print_record : ℕ → Met → List Line
print_record v m =
    cond (eqb m.kind 1 && is_worded v m.body) (print_setup v m.body)
    (print_by records any_record (m.kind ∷ m.body) ∷ [])

unfoldable pub print_records : ℕ → List Met → List Line
print_records v [] = []
print_records v (m ∷ ms) = print_record v m ++ print_records v ms

-- what is left from a record that is cut short or has length 0 on
abbrev pub print_rest : List ℕ → List Line
print_rest [] = []
print_rest (b ∷ s) = field_line 0 raw (b ∷ s) 0 ∷ []

unfoldable pub print_lines : List ℕ → List Line
print_lines [] = []
print_lines (v ∷ s) =
    field_line 0 paper (v ∷ s) 0
    ∷ print_records v (met_in (length (v ∷ s)) (v ∷ s) 1)
    ++ print_rest (drop (place_in (length (v ∷ s)) (v ∷ s) 1) (v ∷ s))

unfoldable pub printed : List ℕ → List ℕ
printed s = text_of (print_lines s)

-- ---- read

-- its kind and its body; the profiles and conversions are counted
unfoldable pub read_setup : ℕ → List Line → Got
read_setup v ls =
    bind (read_line setup.form ls) (λ none ls.
    bind (read_fields first ls) (λ a ls.
    bind (read_fields second ls) (λ b ls.
    bind (read_groups profile 255 ls) (λ ps ls.
    bind (read_groups conversion 255 ls) (λ cs ls.
    bind (read_tails (length ps / profile_length) (known v tails) ls) (λ t ls.
    Took (1 ∷ a ++ (length ps / profile_length ∷ length cs / conversion_length ∷ b ++ (ps ++ (cs ++ t)))) ls))))))

-- the length of a record in front of it
abbrev pub packed : Got → Got
packed (Took b ls) = Took (length b / 256 ∷ length b % 256 ∷ b) ls
packed (Bad n m w) = Bad n m w

-- a record, or bytes as they are
unfoldable pub read_record : ℕ → List Line → Got
read_record v ls =
    cond (leads setup.key ls) (packed (read_setup v ls))
    (cond (leads raw.key ls) (read_line raw.form ls)
    (packed (read_by records any_record ls)))

abbrev pub or_end : List Line → Got → Got
or_end [] g = Took [] []
or_end (l ∷ ls) g = g

-- what a record says, where there is room for it, and what follows
abbrev pub within : ℕ → List Line → Got → (ℕ → List Line → Got) → Got
within room ls (Took b below) next = cond (leb (length b) room) (joined b (next (room - length b) below)) (bad_line ls shorter)
within room ls (Bad n m w) next = Bad n m w

-- at most so many, into so much room
unfoldable pub read_records : ℕ → ℕ → ℕ → List Line → Got
read_records zero v room ls = or_end ls (bad_line ls a_record)
read_records (suc n) v room ls = or_end ls (within room ls (read_record v ls) (read_records n v))

-- a paper has at most 65,536 bytes: so many behind its version
abbrev pub most_behind : ℕ
most_behind = 65_535

-- each record has a line
unfoldable pub read_lines : List Line → Got
read_lines [] = Took [] []
read_lines (l ∷ ls) =
    cond (leads paper.key (l ∷ ls))
    (bind (read_line paper.form (l ∷ ls)) (λ b below. joined b (read_records (length ls) (byte b 0) most_behind below)))
    (bad_line (l ∷ ls) a_paper)

-- ---- the answer

pub data Answer : Type 0 where
  Taken : List ℕ → Answer
  Refused : ℕ → ℕ → Want → Answer  -- line, column, what was expected

pub record Place : Type 0 where
  pub line : ℕ
  pub column : ℕ

-- so many lines and so many words are left: a word begins here, or the line has no more
abbrev pub is_here : ℕ → ℕ → Lexed → Bool
is_here n m l = eqb n (suc (length l.below)) && eqb m (length (flush l.word l.words)) && (eqb m 0 || not (is_empty l.word))

-- the first such place; 10 is the line feed
unfoldable pub place_of : ℕ → ℕ → List ℕ → ℕ → ℕ → Place
place_of n m [] line column = record { line = line; column = column }
place_of n m (c ∷ s) line column =
    cond (is_here n m (lex (c ∷ s))) (record { line = line; column = column })
    (cond (eqb c 10) (place_of n m s (suc line) 1) (place_of n m s line (suc column)))

abbrev pub refused : Place → Want → Answer
refused p w = Refused p.line p.column w

abbrev pub answer : List ℕ → Got → Answer
answer text (Took b ls) = Taken b
answer text (Bad n m w) = refused (place_of n m text 1 1) w

unfoldable pub read_text : List ℕ → Answer
read_text text = answer text (read_lines (lines_in text))
