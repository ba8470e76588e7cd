-- The lines of rows. Assumes nothing.
use mathlib.Core.Path.{◌≡◌, refl, sym, ap, ap₂, ◌∙◌}
use mathlib.Core.Bool.{Bool, true, false}
use mathlib.Core.List.{List, [], ◌∷◌, ◌++◌, append_assoc, append-nil}
use Prim.Native.Nat.{ℕ, suc, ◌+◌, ◌*◌, ◌-◌}
use native.Mathlib.Nat.{zero-add, add-zero, add_comm, suc-mul, zero-mul}
use native.Mathlib.Omega.{arith}
use lib.ListN.{drop, replicate}
use Rattle.words.specs.Words.{is_empty}
use Rattle.words.specs.Lex.{Line, behind, line_text, text_of, flush}
use Rattle.lexing.specs.Places.{word_at, words_at, ends_line, next_word, after_word, next_line}
use Rattle.lexing.proofs.Laws.{words-next, word_next, ended, lines_next}
use Rattle.forms.specs.Form.{Form, width, said, is_blank, print_form}
use Rattle.forms.specs.Grammar.{form_in}
use Rattle.forms.specs.Table.{Field, field_in, fields_in, widths, Group, breadth, field_line, print_fields, print_groups}
use Rattle.forms.proofs.Suffix.{fields-from, groups_from}
use Rattle.walk.specs.Walk.{ends_table, rows_of, table_at, group_at}
use Rattle.walk.proofs.Keys.{never}
use Rattle.walk.proofs.Forms.{form-none}
use Rattle.walk.proofs.Places.{words-after}
use Rattle.walk.proofs.Tables.{ends-here, fields-on, widths-on}
use Rattle.put_forms.specs.Printed.{field_lines}

-- ---- texts

text_append : (a b : List Line) → text_of (a ++ b) ≡ text_of a ++ text_of b
unfolding text_of
text_append [] b = refl
text_append (l ∷ a) b = ap (λ (t : List ℕ). line_text l ++ t) (text_append a b) ∙ sym (append_assoc (line_text l) (text_of a) (text_of b))

pub text-one : (l : Line) → text_of (l ∷ []) ≡ line_text l
unfolding text_of
text-one l = append-nil (line_text l)

pub text-none : text_of [] ≡ []
unfolding text_of
text-none = refl

-- ---- a row's field

module _ (text : List ℕ) (row : ℕ) where
  abbrev pub key : ℕ
  key = next_word text row

  abbrev pub form : Form
  form = form_in (words_at text (after_word text key))

  abbrev pub field : Field
  field = field_in (words_at text row)

  some : (w : List ℕ) (ws : List (List ℕ)) → is_empty w ≡ false → field_in (flush w ws) ≡ record { key = w; form = form_in ws }
  some [] ws h = never (sym h)
  some (c ∷ w) ws h = refl

  none : (w : List ℕ) (ws : List (List ℕ)) → flush w ws ≡ [] → field_in (flush w ws) ≡ record { key = w; form = form_in ws }
  none [] ws h = ap field_in h ∙ ap (λ (f : Form). record { key = []; form = f }) (sym form-none ∙ ap form_in (sym h))
  none (c ∷ w) ws h = cc

  pub field_at : field ≡ record { key = word_at text key; form = form }
  field_at = go (ends_line text key) refl where
    are : words_at text row ≡ flush (word_at text key) (words_at text (after_word text key))
    are = sym (words-next text row) ∙ words-after text key

    go : (b : Bool) → ends_line text key ≡ b → field ≡ record { key = word_at text key; form = form }
    go true e = ap field_in are ∙ none (word_at text key) (words_at text (after_word text key)) (sym (words-after text key) ∙ ended text key e)
    go false e = ap field_in are ∙ some (word_at text key) (words_at text (after_word text key)) (word_next text row e)

  pub line_at : (indent : ℕ) (s : List ℕ) → line_text (field_line indent field s 0) ≡ replicate indent 32 ++ (word_at text key ++ behind (print_form form s 0))
  unfolding line_text
  line_at indent s = ap (λ (f : Field). replicate indent 32 ++ (f.key ++ behind (print_form f.form s 0))) field_at

  pub blank-at : (s : List ℕ) → is_blank (said field.form s 0) ≡ is_blank (said form s 0)
  blank-at s = ap (λ (f : Field). is_blank (said f.form s 0)) field_at

  pub width-at : width field.form ≡ width form
  width-at = ap (λ (f : Field). width f.form) field_at

  pub no_line : (indent : ℕ) (s : List ℕ) → is_blank (said form s 0) ≡ true → text_of (field_lines indent field s) ≡ []
  no_line indent s h = rw (blank-at s ∙ h) text-none

  pub one_line : (indent : ℕ) (s : List ℕ) → is_blank (said form s 0) ≡ false → text_of (field_lines indent field s) ≡ line_text (field_line indent field s 0)
  one_line indent s h = rw (blank-at s ∙ h) (text-one (field_line indent field s 0))

  -- ---- a table's fields

  abbrev pub below : List Field
  below = fields_in (table_at text (next_line text row))

  pub fields-text : (indent : ℕ) (s : List ℕ) (n : ℕ) → ends_table text row ≡ false → n ≡ width form
      → text_of (print_fields indent (fields_in (table_at text row)) s 0) ≡ text_of (field_lines indent field s) ++ text_of (print_fields indent below (drop n s) 0)
  fields-text indent s n h e =
      let place : 0 + width field.form ≡ n + 0 = ap (λ (k : ℕ). 0 + k) (width-at ∙ sym e) ∙ zero-add n ∙ sym (add-zero n) in
      ap text_of (fields-on text row indent s 0 h)
      ∙ text_append (field_lines indent field s) (print_fields indent below s (0 + width field.form))
      ∙ ap (λ (ls : List Line). text_of (field_lines indent field s) ++ text_of ls) (ap (print_fields indent below s) place ∙ sym (fields-from s n indent below 0))

  pub fields-size : (n : ℕ) → ends_table text row ≡ false → n ≡ width form → widths (fields_in (table_at text row)) ≡ n + widths below
  fields-size n h e = widths-on text row h ∙ ap (λ (k : ℕ). k + widths below) (width-at ∙ sym e)

  pub fields-none : (indent : ℕ) (s : List ℕ) → ends_table text row ≡ true → text_of (print_fields indent (fields_in (table_at text row)) s 0) ≡ []
  unfolding print_fields
  fields-none indent s h = ap (λ (rows : List (List (List ℕ))). text_of (print_fields indent (fields_in rows) s 0)) (ends-here text row h).rows ∙ text-none

  pub size_none : ends_table text row ≡ true → widths (fields_in (table_at text row)) ≡ 0
  size_none h = ap (λ (rows : List (List (List ℕ))). widths (fields_in rows)) (ends-here text row h).rows

  -- ---- groups

  abbrev pub group : Group
  group = group_at text row

  pub group-fields : group.fields ≡ below
  unfolding group_at table_at
  group-fields = ap (λ (ls : List Line). fields_in (rows_of ls)) (sym (lines_next text row))

  pub breadth-is : (h f : ℕ) → h ≡ width form → f ≡ widths below → breadth group ≡ h + f
  unfolding group_at table_at
  breadth-is h f e k = ap₂ (λ (a b : ℕ). a + b) (width-at ∙ sym e) (ap widths group-fields ∙ sym k)

  group-more : (indent n : ℕ) (s : List ℕ) → print_groups indent group (suc n) s 0
      ≡ field_line indent field s 0 ∷ print_fields (indent + 2) group.fields s (0 + width field.form) ++ print_groups indent group n s (0 + breadth group)
  unfolding print_groups group_at
  group-more indent n s = refl

  pub groups_text : (indent n : ℕ) (s : List ℕ) (h f : ℕ) → (n ≡ 0 → ⊥) → h ≡ width form → f ≡ widths below
      → text_of (print_groups indent group n s 0)
      ≡ line_text (field_line indent field s 0) ++ (text_of (print_fields (indent + 2) below (drop h s) 0) ++ text_of (print_groups indent group (n - 1) (drop (h + f) s) 0))
  groups_text indent n s h f some e k =
      let more : n ≡ suc (n - 1) = omega (arith, some) in
      let head : 0 + width field.form ≡ h + 0 = ap (λ (k : ℕ). 0 + k) (width-at ∙ sym e) ∙ zero-add h ∙ sym (add-zero h) in
      let whole : 0 + breadth group ≡ h + f + 0 = ap (λ (k : ℕ). 0 + k) (breadth-is h f e k) ∙ zero-add (h + f) ∙ sym (add-zero (h + f)) in
      let fields = ap₂ (λ (fs : List Field) (at : ℕ). print_fields (indent + 2) fs s at) group-fields head ∙ sym (fields-from s h (indent + 2) below 0) in
      let others = ap (print_groups indent group (n - 1) s) whole ∙ sym (groups_from s (h + f) indent group (n - 1) 0) in
      ap (λ (k : ℕ). text_of (print_groups indent group k s 0)) more
      ∙ ap text_of (group-more indent (n - 1) s)
      ∙ first (field_line indent field s 0) _ _
      ∙ ap₂ (λ (a b : List Line). line_text (field_line indent field s 0) ++ (text_of a ++ text_of b)) fields others where
        first : (l : Line) (a b : List Line) → text_of (l ∷ a ++ b) ≡ line_text l ++ (text_of a ++ text_of b)
        first l a b = text_append (l ∷ []) (a ++ b) ∙ ap₂ (λ (x y : List ℕ). x ++ y) (text-one l) (text_append a b)

  pub groups_none : (indent n : ℕ) (s : List ℕ) → n ≡ 0 → text_of (print_groups indent group n s 0) ≡ []
  unfolding print_groups
  groups_none indent n s e = ap (λ (k : ℕ). text_of (print_groups indent group k s 0)) e ∙ text-none

  pub groups_size : (n b : ℕ) → (n ≡ 0 → ⊥) → breadth group ≡ b → n * breadth group ≡ b + (n - 1) * breadth group
  groups_size n b some e =
      let more : n ≡ suc (n - 1) = omega (arith, some) in
      ap (λ (k : ℕ). k * breadth group) more
      ∙ suc-mul (n - 1) (breadth group)
      ∙ add_comm ((n - 1) * breadth group) (breadth group)
      ∙ ap (λ (k : ℕ). k + (n - 1) * breadth group) e

  pub no_groups : (n : ℕ) → n ≡ 0 → n * breadth group ≡ 0
  no_groups n e = ap (λ (k : ℕ). k * breadth group) e ∙ zero-mul (breadth group)
