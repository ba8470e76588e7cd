-- Records by a table of rows: the bytes that a record of a row begins with, and what the line says of the others. The first row that fits prints.
use Rattle.std.specs.Prelude.{Bool, true, false, cond, not, ◌&&◌, List, [], ◌∷◌, ℕ, ◌-◌, eqb, length, drop}
use Rattle.words.specs.Words.{is_in, hex_bytes}
use Rattle.words.specs.Lex.{Line, is_word}
use Rattle.forms.specs.Form.{fits_length, a_record, fine}
use Rattle.forms.specs.Table.{Field, field_in, field_line, Got, joined, leads, read_line, bad_line}

pub record Row : Type 0 where
  pub lead : List ℕ
  pub field : Field

-- of a row's words: the key, the lead in hex behind a "=", and the form
abbrev pub row_in : List (List ℕ) → Row
row_in [] = record { lead = []; field = field_in [] }
row_in (key ∷ []) = record { lead = []; field = field_in (key ∷ []) }
row_in (key ∷ lead ∷ ws) = record { lead = hex_bytes (drop 1 lead); field = field_in (key ∷ ws) }

abbrev pub leads_in : List (List (List ℕ)) → List Row
leads_in [] = []
leads_in (row ∷ rows) = row_in row ∷ leads_in rows

unfoldable pub starts_with : List ℕ → List ℕ → Bool
starts_with [] s = true
starts_with (c ∷ lead) [] = false
starts_with (c ∷ lead) (d ∷ s) = eqb c d && starts_with lead s

-- a record of these bytes, its kind and its body
abbrev pub fits : Row → List ℕ → Bool
fits r s = starts_with r.lead s && fits_length r.field.form (length s - length r.lead)

-- by another field where no row fits
unfoldable pub print_by : List Row → Field → List ℕ → Line
print_by [] any s = field_line 0 any s 0
print_by (r ∷ rs) any s = cond (fits r s) (field_line 0 r.field s (length r.lead)) (print_by rs any s)

unfoldable pub read_by : List Row → Field → List Line → Got
read_by [] any ls = cond (leads any.key ls) (read_line any.form ls) (bad_line ls a_record)
read_by (r ∷ rs) any ls = cond (leads r.field.key ls) (joined r.lead (read_line r.field.form ls)) (read_by rs any ls)

-- ---- rows that read back: a test on the table alone

abbrev pub row_keys : List Row → Field → List (List ℕ)
row_keys [] any = any.key ∷ []
row_keys (r ∷ rs) any = r.field.key ∷ row_keys rs any

unfoldable pub fine_rows : List Row → Field → Bool
fine_rows [] any = is_word any.key && fine any.form
fine_rows (r ∷ rs) any = is_word r.field.key && fine r.field.form && not (is_in r.field.key (row_keys rs any)) && fine_rows rs any
