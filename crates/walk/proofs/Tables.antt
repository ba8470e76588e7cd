-- The rows of a table, one below the other. Assumes nothing.
use mathlib.Core.Path.{◌≡◌, refl, sym, ap, ◌∙◌}
use mathlib.Core.Bool.{Bool, true, false, cond}
use mathlib.Core.List.{List, [], ◌∷◌, ◌++◌}
use Prim.Native.Nat.{ℕ, zero, suc, ◌+◌, ◌-◌, ◌≤◌, ◌<◌}
use native.Mathlib.Nat.{add-zero, zero-add}
use native.Mathlib.Omega.{arith}
use borrow.Author.Tests.{ltb-false, leb-true, leb-false, le-leb, lt-leb, eqb-true}
use lib.Dec.{leb, ltb, eqb}
use lib.ListN.{length, take, drop, drop_of_length-le}
use lib.Seq.{drop-cons}
use Rattle.wire.specs.Wire.{byte}
use Rattle.words.specs.Words.{is_empty, all}
use Rattle.words.specs.Lex.{Line, flush, shut, lines_of, lex}
use Rattle.lexing.specs.Places.{word_at, words_at, below_at, lines_at, ends_line, word_end, after_word, line_end, line_rest, next_word, below_line, line_from, next_line}
use Rattle.lexing.proofs.Steps.{in_line_lem}
use Rattle.lexing.proofs.Steps as Steps
use Rattle.lexing.proofs.Laws.{word-part, words-next, below_next, word_next, next-behind, ended, lines-ended, lines_next}
use Rattle.forms.specs.Form.{done, width, said, is_blank}
use Rattle.forms.specs.Table.{Field, field_in, fields_in, widths, field_line, print_fields}
use Rattle.walk.specs.Walk.{is_header, rows_of, past_rows, table_at, ends_table}
use Rattle.walk.proofs.Places.{words-after}

-- a word is not empty where it begins
first_byte : (text : List ℕ) (t : ℕ) → t < length text → is_empty (word_at text t) ≡ false → byte (word_at text t) 0 ≡ byte text t
first_byte text t inside h = go (word_end text t - t) (word_at text t) (word-part text t ∙ refl) h where
  go : (n : ℕ) (w : List ℕ) → take n (drop t text) ≡ w → is_empty w ≡ false → byte w 0 ≡ byte text t
  go zero w e k = let z : ◌≡◌ {A = ℕ} 0 1 = cc (ap is_empty e) in absurd (omega arith)
  go (suc n) w e k = ap (λ (s : List ℕ). byte s 0) (sym e ∙ ap (take (suc n)) (drop-cons text t 0 inside))

module _ (text : List ℕ) (row : ℕ) where
  -- the line of a row
  line-is : (w : List ℕ) (ws : List (List ℕ)) → words_at text row ≡ w ∷ ws → lines_at text row ≡ record { indent = (lex (drop row text)).blanks; words = w ∷ ws } ∷ below_at text row
  unfolding words_at lines_at below_at lines_of
  line-is w ws e = ap (λ (vs : List (List ℕ)). shut (lex (drop row text)).blanks vs (lex (drop row text)).below) e

  none-past : (t : ℕ) → length text ≤ t → (words_at text t ≡ []) × (below_at text t ≡ [])
  unfolding words_at below_at lex
  none-past t h =
      let none : drop t text ≡ [] = drop_of_length-le text h in
      (ap (λ (s : List ℕ). flush (lex s).word (lex s).words) none, ap (λ (s : List ℕ). (lex s).below) none)

  past-text : length text ≤ next_word text row → lines_at text row ≡ []
  past-text h =
      let (words, below) = none-past (next_word text row) h in
      lines-ended text row (sym (words-next text row) ∙ words) ∙ sym (below_next text row) ∙ below

  -- the next line is further on
  below_on : (t : ℕ) → t ≤ below_line text t
  unfolding below_line line_end
  below_on t = go (ltb (t + line_rest (drop t text)) (length text)) where
    go : (b : Bool) → t ≤ cond b (suc (t + line_rest (drop t text))) (t + line_rest (drop t text))
    go true = omega arith
    go false = omega arith

  below-past : row < length text → row < below_line text row
  unfolding below_line line_end
  below-past h = go (ltb (row + line_rest (drop row text)) (length text)) refl where
    go : (b : Bool) → ltb (row + line_rest (drop row text)) (length text) ≡ b → row < cond b (suc (row + line_rest (drop row text))) (row + line_rest (drop row text))
    go true e = omega arith
    go false e = let over = ltb-false (row + line_rest (drop row text)) (length text) e in omega arith

  from_on : (most t : ℕ) → t ≤ line_from most text t
  unfolding line_from
  from_on zero t = omega arith
  from_on (suc most) t = go (ends_line text (next_word text t)) (from_on most (below_line text (next_word text t))) where
    go : (b : Bool) → below_line text (next_word text t) ≤ line_from most text (below_line text (next_word text t))
        → t ≤ cond b (line_from most text (below_line text (next_word text t))) t
    go true h = let a = next-behind text t in let b = below_on (next_word text t) in omega arith
    go false h = omega arith

  pub next-moves : row < length text → row < next_line text row
  unfolding next_line
  next-moves h = let a = below-past h in let b = from_on (length text) (below_line text row) in omega arith

  -- ---- the table ends here

  pub header : length text ≤ next_word text row → ends_table text row ≡ true
  unfolding ends_table
  header h = rw (le-leb (length text) (next_word text row) h)

  pub key-is : next_word text row < length text → ends_table text row ≡ eqb (byte text (next_word text row)) 45
  unfolding ends_table
  key-is h = rw (lt-leb (length text) (next_word text row) h)

  pub in_table : ends_table text row ≡ false → (row < length text) × (next_word text row < length text)
  in_table h = go (leb (length text) (next_word text row)) refl where
    go : (b : Bool) → leb (length text) (next_word text row) ≡ b → (row < length text) × (next_word text row < length text)
    go true e =
        let z : true ≡ false = sym (header (leb-true (length text) (next_word text row) e)) ∙ h in
        let no : ◌≡◌ {A = ℕ} 0 1 = cc in
        absurd (omega arith)
    go false e = let inside = leb-false (length text) (next_word text row) e in let on = next-behind text row in (omega arith, omega arith)

  -- the words of a line that has one
  words_are : ends_line text (next_word text row) ≡ false
      → (is_empty (word_at text (next_word text row)) ≡ false) × (words_at text row ≡ flush (word_at text (next_word text row)) (words_at text (after_word text (next_word text row))))
  words_are e = (word_next text row e, sym (words-next text row) ∙ words-after text (next_word text row))

  pub record Row : Type 0 where
    pub line : Line
    pub words : line.words ≡ words_at text row
    pub lines : lines_at text row ≡ line ∷ below_at text row
    pub header : is_header (words_at text row) ≡ eqb (byte text (next_word text row)) 45

  a_row : ends_line text (next_word text row) ≡ false → Row
  a_row e =
      let inside = in_line_lem text (next_word text row) e in
      let (some, are) = words_are e in
      go (word_at text (next_word text row)) (words_at text (after_word text (next_word text row))) some are (first_byte text (next_word text row) inside some) where
        go : (w : List ℕ) (ws : List (List ℕ)) → is_empty w ≡ false → words_at text row ≡ flush w ws → byte w 0 ≡ byte text (next_word text row) → Row
        go [] ws some are first = let z : ◌≡◌ {A = ℕ} 0 1 = cc in absurd (omega arith)
        go (c ∷ w) ws some are first = record {
          line = record { indent = (lex (drop row text)).blanks; words = (c ∷ w) ∷ ws };
          words = sym are;
          lines = line-is (c ∷ w) ws are;
          header = ap is_header are ∙ ap (λ (b : ℕ). eqb b 45) first;
        }

  pub record Ended : Type 0 where
    pub rows : table_at text row ≡ []
    pub past : past_rows (lines_at text row) ≡ lines_at text row

  pub ends-here : ends_table text row ≡ true → Ended
  unfolding table_at rows_of past_rows
  ends-here h = go (leb (length text) (next_word text row)) refl where
    at_header : (r : Row) → is_header r.line.words ≡ true → Ended
    at_header r e = record { rows = rw (r.lines, e); past = rw (r.lines, e) }

    in_text : next_word text row < length text → (b : Bool) → ends_line text (next_word text row) ≡ b → Ended
    in_text inside true e =
        let feed = eqb-true (byte text (next_word text row)) 10 (sym (Steps.ends-here text (next_word text row) inside) ∙ e) in
        let dash = eqb-true (byte text (next_word text row)) 45 (sym (key-is inside) ∙ h) in
        absurd (omega arith)
    in_text inside false e = let r = a_row e in at_header r (ap is_header r.words ∙ r.header ∙ sym (key-is inside) ∙ h)

    go : (b : Bool) → leb (length text) (next_word text row) ≡ b → Ended
    go true e = let none = past-text (leb-true (length text) (next_word text row) e) in record { rows = rw none; past = rw none }
    go false e = in_text (leb-false (length text) (next_word text row) e) (ends_line text (next_word text row)) refl

  -- ---- the table goes on: a row, or a line without a word

  no_row : ends_line text (next_word text row) ≡ true → (words_at text row ≡ []) × (lines_at text row ≡ lines_at text (next_line text row))
  no_row e =
      let none = sym (words-next text row) ∙ ended text (next_word text row) e in
      (none, lines-ended text row none ∙ sym (lines_next text row))

  row-lines : (r : Row) → lines_at text row ≡ r.line ∷ lines_at text (next_line text row)
  row-lines r = r.lines ∙ ap (λ (ls : List Line). r.line ∷ ls) (sym (lines_next text row))

  no_header : ends_table text row ≡ false → (r : Row) → is_header r.line.words ≡ false
  no_header h r = let (_, inside) = in_table h in ap is_header r.words ∙ r.header ∙ sym (key-is inside) ∙ h

  pub past-on : ends_table text row ≡ false → past_rows (lines_at text row) ≡ past_rows (lines_at text (next_line text row))
  unfolding past_rows
  past-on h = go (ends_line text (next_word text row)) refl where
    go : (b : Bool) → ends_line text (next_word text row) ≡ b → past_rows (lines_at text row) ≡ past_rows (lines_at text (next_line text row))
    go true e = ap past_rows (no_row e).1
    go false e = let r = a_row e in rw (row-lines r, no_header h r)

  abbrev pub field_at : Field
  field_at = field_in (words_at text row)

  rows_on : ends_table text row ≡ false → ends_line text (next_word text row) ≡ false → table_at text row ≡ words_at text row ∷ table_at text (next_line text row)
  unfolding table_at rows_of
  rows_on h e =
      let r = a_row e in
      ap rows_of (row-lines r) ∙ rw (no_header h r) (ap (λ (ws : List (List ℕ)). ws ∷ rows_of (lines_at text (next_line text row))) r.words)

  rows_none : ends_line text (next_word text row) ≡ true → table_at text row ≡ table_at text (next_line text row)
  unfolding table_at
  rows_none e = ap rows_of (no_row e).1

  no_form : words_at text row ≡ [] → field_at.form ≡ done
  no_form e = ap (λ (ws : List (List ℕ)). (field_in ws).form) e

  pub widths-on : ends_table text row ≡ false → widths (fields_in (table_at text row)) ≡ width field_at.form + widths (fields_in (table_at text (next_line text row)))
  widths-on h = go (ends_line text (next_word text row)) refl where
    go : (b : Bool) → ends_line text (next_word text row) ≡ b
        → widths (fields_in (table_at text row)) ≡ width field_at.form + widths (fields_in (table_at text (next_line text row)))
    go true e = rw (no_form (no_row e).0) (ap (λ (rows : List (List (List ℕ))). widths (fields_in rows)) (rows_none e) ∙ sym (zero-add _))
    go false e = ap (λ (rows : List (List (List ℕ))). widths (fields_in rows)) (rows_on h e)

  pub fields-on : (indent : ℕ) (s : List ℕ) (at : ℕ) → ends_table text row ≡ false
      → print_fields indent (fields_in (table_at text row)) s at
      ≡ cond (is_blank (said field_at.form s at)) [] (field_line indent field_at s at ∷ []) ++ print_fields indent (fields_in (table_at text (next_line text row))) s (at + width field_at.form)
  unfolding print_fields is_blank all
  fields-on indent s at h = go (ends_line text (next_word text row)) refl where
    go : (b : Bool) → ends_line text (next_word text row) ≡ b
        → print_fields indent (fields_in (table_at text row)) s at
        ≡ cond (is_blank (said field_at.form s at)) [] (field_line indent field_at s at ∷ []) ++ print_fields indent (fields_in (table_at text (next_line text row))) s (at + width field_at.form)
    go true e =
        rw (no_form (no_row e).0, add-zero at) (ap (λ (rows : List (List (List ℕ))). print_fields indent (fields_in rows) s at) (rows_none e))
    go false e = ap (λ (rows : List (List (List ℕ))). print_fields indent (fields_in rows) s at) (rows_on h e)
