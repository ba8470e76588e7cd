-- Places of the grammar: parts, rows and tables.
use Rattle.std.specs.Prelude.{◌≡◌, Bool, false, cond, ◌||◌, List, [], ◌∷◌, ℕ, ◌≤◌, ◌*◌, ◌-◌, leb, eqb, length}
use Rattle.wire.specs.Wire.{byte}
use Rattle.words.specs.Lex.{Line}
use Rattle.walk.specs.declared.Mark.{Mark as Kind}
use Rattle.walk.specs.Marks.{mark_at}
use Rattle.lexing.specs.Places.{words_at, lines_at, below_at, next_word}
use Rattle.forms.specs.Form.{width}
use Rattle.forms.specs.Grammar.{form_in}
use Rattle.forms.specs.Table.{Group, field_in, fields_in}

-- a place, not in front of another, from which on the line says these words
pub record Leads (text : List ℕ) (t : ℕ) (ws : List (List ℕ)) (r : ℕ) : Type 0 where
  pub says : words_at text r ≡ ws
  pub on : t ≤ r

-- the mark at a place of a grammar of this size
pub record Marked (text : List ℕ) (size t : ℕ) (r : Kind) : Type 0 where
  pub is : r ≡ mark_at text t
  pub sized : length text ≡ size

-- the bytes of a row from a part on; a word of it stands for 8 bytes at most
pub record Width (text : List ℕ) (size t r : ℕ) : Type 0 where
  pub is : r ≡ width (form_in (words_at text t))
  pub small : r ≤ 8 * (size - t)

-- a line that begins with "-" stands between tables
abbrev pub is_header : List (List ℕ) → Bool
is_header [] = false
is_header (w ∷ ws) = eqb (byte w 0) 45

unfoldable pub rows_of : List Line → List (List (List ℕ))
rows_of [] = []
rows_of (l ∷ ls) = cond (is_header l.words) [] (l.words ∷ rows_of ls)

-- the lines from the header on
unfoldable pub past_rows : List Line → List Line
past_rows [] = []
past_rows (l ∷ ls) = cond (is_header l.words) (l ∷ ls) (past_rows ls)

-- the rows of the table from this place on
unfoldable pub table_at : List ℕ → ℕ → List (List (List ℕ))
table_at text t = rows_of (lines_at text t)

-- the row of this place, and the others of its table below it
unfoldable pub group_at : List ℕ → ℕ → Group
group_at text t = record { head = field_in (words_at text t); fields = fields_in (rows_of (below_at text t)) }

-- the next word begins a header, or the text ends
unfoldable pub ends_table : List ℕ → ℕ → Bool
ends_table text row = leb (length text) (next_word text row) || eqb (byte text (next_word text row)) 45
