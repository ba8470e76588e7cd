-- Tables of fields: a line to a field, in the paper's order; one that is left out is zeros. Groups of them, as profiles are.
use Rattle.std.specs.Prelude.{Bool, true, false, cond, not, ◌&&◌, List, [], ◌∷◌, ◌++◌, ℕ, zero, suc, ◌+◌, length, replicate}
use Rattle.words.specs.Words.{is_in, begins, tail}
use Rattle.words.specs.Lex.{Line, is_word}
use Rattle.forms.specs.Form.{Form, done, width, said, is_blank, print_form, Want, a_record, Read, Said, Wrong, read_form, closed, fine}
use Rattle.forms.specs.Grammar.{form_in}

-- a line's first word, and what it says
pub record Field : Type 0 where
  pub key : List ℕ
  pub form : Form

-- of a row's words
abbrev pub field_in : List (List ℕ) → Field
field_in [] = record { key = []; form = done }
field_in (key ∷ ws) = record { key = key; form = form_in ws }

abbrev pub fields_in : List (List (List ℕ)) → List Field
fields_in [] = []
fields_in (row ∷ rows) = field_in row ∷ fields_in rows

abbrev pub keys : List Field → List (List ℕ)
keys [] = []
keys (f ∷ fs) = f.key ∷ keys fs

abbrev pub widths : List Field → ℕ
widths [] = 0
widths (f ∷ fs) = width f.form + widths fs

-- where each field stands
abbrev pub offsets : List Field → ℕ → List ℕ
offsets [] at = []
offsets (f ∷ fs) at = at ∷ offsets fs (at + width f.form)

-- a field that always has its line, and the fields below it
pub record Group : Type 0 where
  pub head : Field
  pub fields : List Field

abbrev pub group_in : List (List (List ℕ)) → Group
group_in [] = record { head = field_in []; fields = [] }
group_in (row ∷ rows) = record { head = field_in row; fields = fields_in rows }

abbrev pub breadth : Group → ℕ
breadth g = width g.head.form + widths g.fields

-- ---- printed

abbrev pub field_line : ℕ → Field → List ℕ → ℕ → Line
field_line indent f s at = record { indent = indent; words = f.key ∷ print_form f.form s at }

unfoldable pub print_fields : ℕ → List Field → List ℕ → ℕ → List Line
print_fields indent [] s at = []
print_fields indent (f ∷ fs) s at =
    cond (is_blank (said f.form s at)) [] (field_line indent f s at ∷ []) ++ print_fields indent fs s (at + width f.form)

-- so many groups
unfoldable pub print_groups : ℕ → Group → ℕ → List ℕ → ℕ → List Line
print_groups indent g zero s at = []
print_groups indent g (suc n) s at =
    field_line indent g.head s at ∷ print_fields (indent + 2) g.fields s (at + width g.head.form)
    ++ print_groups indent g n s (at + breadth g)

-- ---- read

-- bytes and the lines that are left; or how many lines are left from the first that is wrong on, how many words in it, and what was expected
pub data Got : Type 0 where
  Took : List ℕ → List Line → Got
  Bad : ℕ → ℕ → Want → Got

abbrev pub bind : Got → (List ℕ → List Line → Got) → Got
bind (Took b ls) next = next b ls
bind (Bad n m w) next = Bad n m w

abbrev pub joined : List ℕ → Got → Got
joined b (Took c ls) = Took (b ++ c) ls
joined b (Bad n m w) = Bad n m w

abbrev pub and_then : Got → (List Line → Got) → Got
and_then g next = bind g (λ b ls. joined b (next ls))

-- what a line says, with the lines below it
abbrev pub in_line : List Line → Read → Got
in_line ls (Said b) = Took b ls
in_line ls (Wrong n w) = Bad (suc (length ls)) n w

abbrev pub leads : List ℕ → List Line → Bool
leads key [] = false
leads key (l ∷ ls) = begins key l.words

-- a line of a form, whose first word is known
abbrev pub read_line : Form → List Line → Got
read_line f [] = Bad 0 0 a_record
read_line f (l ∷ ls) = in_line ls (read_form f (tail l.words))

abbrev pub read_field : Field → List Line → Got
read_field f ls = cond (leads f.key ls) (read_line f.form ls) (Took (replicate (width f.form) 0) ls)

unfoldable pub read_fields : List Field → List Line → Got
read_fields [] ls = Took [] ls
read_fields (f ∷ fs) ls = and_then (read_field f ls) (read_fields fs)

-- at most so many
unfoldable pub read_groups : Group → ℕ → List Line → Got
read_groups g zero ls = Took [] ls
read_groups g (suc n) ls =
    cond (leads g.head.key ls)
    (and_then (read_line g.head.form ls) (λ ls. and_then (read_fields g.fields ls) (read_groups g n)))
    (Took [] ls)

-- the first word of the next line is wrong
abbrev pub bad_line : List Line → Want → Got
bad_line [] w = Bad 0 0 w
bad_line (l ∷ ls) w = Bad (length (l ∷ ls)) (length l.words) w

-- ---- tables that read back: a test on the table alone

abbrev pub fine_field : Field → Bool
fine_field f = is_word f.key && fine f.form && closed f.form

unfoldable pub fine_fields : List Field → Bool
fine_fields [] = true
fine_fields (f ∷ fs) = fine_field f && not (is_in f.key (keys fs)) && fine_fields fs

unfoldable pub fine_group : Group → Bool
fine_group g = fine_field g.head && not (is_in g.head.key (keys g.fields)) && fine_fields g.fields

-- no word of the one list is in the other
unfoldable pub apart : List (List ℕ) → List (List ℕ) → Bool
apart [] ks = true
apart (k ∷ more) ks = not (is_in k ks) && apart more ks
