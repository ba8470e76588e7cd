-- What a line says, spot by spot, and where each spot stands in the bytes.
use Rattle.std.specs.Prelude.{Bool, true, false, cond, ◌&&◌, List, [], ◌∷◌, ◌++◌, ℕ, ◌+◌, replicate}
use Rattle.words.specs.Words.{word, read_flags, begins, tail}
use Rattle.words.specs.Lex.{Line}
use Rattle.forms.specs.Form.{Part, say, count, bytes, named, date, code, Form, done, rest, may, part, bits, either, size, width, bytes_at, big_endian, bytes_in}
use Rattle.forms.specs.Table.{Field, leads}

-- behind which word of a line, from which place on, in how many bytes
pub record Spot : Type 0 where
  pub key : List ℕ
  pub label : List ℕ
  pub place : ℕ
  pub wide : ℕ

abbrev pub spot : List ℕ → List ℕ → ℕ → ℕ → Spot
spot key label place wide = record { key = key; label = label; place = place; wide = wide }

abbrev pub label_of : List ℕ → Part → List ℕ
label_of label (say w) = w
label_of label (count n) = label
label_of label (bytes n) = label
label_of label (named vs) = label
label_of label date = label
label_of label code = label

-- a word that says bytes
abbrev pub telling : {A : Type 0} → Part → A → List A
telling (say w) a = []
telling (count n) a = a ∷ []
telling (bytes n) a = a ∷ []
telling (named vs) a = a ∷ []
telling date a = a ∷ []
telling code a = a ∷ []

-- the spots of a line of this key, where the form stands at a place
unfoldable pub spots_in : List ℕ → List ℕ → Form → ℕ → List Spot
spots_in key label done at = []
spots_in key label rest at = []
spots_in key label (may f) at = spots_in key label f at
spots_in key label (part p f) at = telling p (spot key label at (size p)) ++ spots_in key (label_of label p) f (at + size p)
spots_in key label (bits n vs f) at = spot key label at n ∷ spots_in key label f (at + n)
spots_in key label (either f g) at = []

abbrev pub field_spots : Field → ℕ → List Spot
field_spots f at = spots_in f.key f.key f.form at

unfoldable pub spots_of : List Field → ℕ → List Spot
spots_of [] at = []
spots_of (f ∷ fs) at = field_spots f at ++ spots_of fs (at + width f.form)

-- the bytes that stand there
unfoldable pub found : List Spot → List ℕ → ℕ → List (List ℕ)
found [] s at = []
found (t ∷ ts) s at = bytes_at s (at + t.place) t.wide ∷ found ts s at

-- the bytes that a line's words say
abbrev pub first_of : List (List ℕ) → List ℕ
first_of [] = []
first_of (w ∷ ws) = w

unfoldable pub heard : Form → List (List ℕ) → List (List ℕ)
heard done ws = []
heard rest ws = []
heard (may f) ws = heard f ws
heard (part p f) ws = telling p (bytes_in p (first_of ws)) ++ heard f (tail ws)
heard (bits n vs f) ws =
    cond (begins (word "bits") ws) (bytes_in (bytes n) (first_of (tail ws)) ∷ heard f (tail (tail ws)))
    (big_endian n (read_flags vs ws).bits ∷ heard f (read_flags vs ws).left)
heard (either f g) ws = []

-- those of a field that is left out
unfoldable pub zeros : List Spot → List (List ℕ)
zeros [] = []
zeros (t ∷ ts) = replicate t.wide 0 ∷ zeros ts

abbrev pub line_heard : Field → List Line → List (List ℕ)
line_heard f [] = []
line_heard f (l ∷ ls) = heard f.form (tail l.words)

abbrev pub below : List Line → List Line
below [] = []
below (l ∷ ls) = ls

unfoldable pub fields_heard : List Field → List Line → List (List ℕ)
fields_heard [] ls = []
fields_heard (f ∷ fs) ls =
    cond (leads f.key ls) (line_heard f ls ++ fields_heard fs (below ls)) (zeros (field_spots f 0) ++ fields_heard fs ls)

-- every word and flag always stands there
unfoldable pub plain : Form → Bool
plain done = true
plain rest = false
plain (may f) = false
plain (part p f) = plain f
plain (bits n vs f) = plain f
plain (either f g) = false

unfoldable pub plain_fields : List Field → Bool
plain_fields [] = true
plain_fields (f ∷ fs) = plain f.form && plain_fields fs
