-- A record reads back by its row, or by the one that takes any. Assumes nothing.
use mathlib.Core.Path.{◌≡◌, refl, ap, ap₂, ◌∙◌}
use mathlib.Core.Bool.{Bool, true, false, cond, not, ◌&&◌}
use mathlib.Core.List.{List, [], ◌∷◌, ◌++◌}
use Prim.Native.Nat.{ℕ, ◌-◌, ◌≤◌}
use native.Mathlib.Nat.{sub-zero}
use native.Mathlib.Omega.{arith}
use borrow.Author.Tests.{eqb-true, not-true}
use lib.Dec.{eqb}
use lib.ListN.{length, drop}
use Rattle.words.specs.Words.{same, is_in, begins}
use Rattle.words.specs.Lex.{Line, is_word, are_lines}
use Rattle.words.proofs.Tests.{both, neither, same_refl}
use Rattle.words.proofs.Names.{stopped, turned}
use Rattle.forms.specs.Form.{fits_length, print_form, fine}
use Rattle.forms.specs.Table.{Field, field_line, Took, joined, in_line, read_line, apart}
use Rattle.forms.specs.Row.{Row, starts_with, fits, print_by, read_by, row_keys, fine_rows}
use Rattle.forms.proofs.Bytes.{Bytes}
use Rattle.forms.proofs.Forms.{never, said_fits, form_back}
use Rattle.forms.proofs.Tables.{clear}
use Rattle.forms.proofs.Speaks.{one_line, no_lines, form-words}

-- what begins with a lead is the lead and the rest
record Led (lead s : List ℕ) : Type 0 where
  whole : lead ++ drop (length lead) s ≡ s
  short : length lead ≤ length s

starts_with_lem : (lead s : List ℕ) → starts_with lead s ≡ true → Led lead s
unfolding starts_with
starts_with_lem [] s h = record { whole = refl; short = omega arith }
starts_with_lem (c ∷ lead) [] h = never h
starts_with_lem (c ∷ lead) (d ∷ s) h =
    let (p, q) = both (eqb c d) (starts_with lead s) h in
    let r = starts_with_lem lead s q in
    let less = r.short in
    record { whole = ap₂ ◌∷◌ (eqb-true c d p) r.whole; short = omega arith }

-- no other key begins a record's line
pub by_not : (k : List ℕ) (rs : List Row) (any : Field) (s : List ℕ) → is_in k (row_keys rs any) ≡ false → begins k (print_by rs any s).words ≡ false
unfolding is_in print_by
by_not k [] any s h = turned any.key k (neither (same k any.key) false h).0
by_not k (r ∷ rs) any s h =
    let (here, more) = neither (same k r.field.key) (is_in k (row_keys rs any)) h in
    by (fits r s) (turned r.field.key k here) (by_not k rs any s more) where
      by : (t : Bool) → same r.field.key k ≡ false → begins k (print_by rs any s).words ≡ false
          → begins k (cond t (field_line 0 r.field s (length r.lead)) (print_by rs any s)).words ≡ false
      by true p q = p
      by false p q = q

pub by_clear : (ks : List (List ℕ)) (rs : List Row) (any : Field) (s : List ℕ) (ls : List Line) → apart (row_keys rs any) ks ≡ true → clear ks (print_by rs any s ∷ ls) ≡ true
unfolding apart print_by
by_clear ks [] any s ls h = (both (not (is_in any.key ks)) true h).0
by_clear ks (r ∷ rs) any s ls h =
    let (here, more) = both (not (is_in r.field.key ks)) (apart (row_keys rs any) ks) h in
    by (fits r s) here (by_clear ks rs any s ls more) where
      by : (t : Bool) → not (is_in r.field.key ks) ≡ true → stopped ks (print_by rs any s).words ≡ true
          → stopped ks (cond t (field_line 0 r.field s (length r.lead)) (print_by rs any s)).words ≡ true
      by true p q = p
      by false p q = q

abbrev fine_row : Row → List Row → Field → Bool
fine_row r rs any = is_word r.field.key && fine r.field.form && not (is_in r.field.key (row_keys rs any))

module _ (s : List ℕ) (small : Bytes s) where
  line_back : (f : Field) (at : ℕ) (ls : List Line) → fine f.form ≡ true → at ≤ length s → fits_length f.form (length s - at) ≡ true
      → read_line f.form (field_line 0 f s at ∷ ls) ≡ Took (drop at s) ls
  line_back f at ls good less whole = ap (in_line ls) (form_back s small f.form at good) ∙ ap (λ b. Took b ls) (said_fits s f.form at less whole)

  row_back : (r : Row) (ls : List Line) → fine r.field.form ≡ true → fits r s ≡ true
      → joined r.lead (read_line r.field.form (field_line 0 r.field s (length r.lead) ∷ ls)) ≡ Took s ls
  row_back r ls good h =
      let (p, q) = both (starts_with r.lead s) (fits_length r.field.form (length s - length r.lead)) h in
      let l = starts_with_lem r.lead s p in
      ap (joined r.lead) (line_back r.field (length r.lead) ls good l.short q) ∙ ap (λ b. Took b ls) l.whole

  -- THE LAW OF A RECORD
  pub by_back : (rs : List Row) (any : Field) (ls : List Line) → fine_rows rs any ≡ true → fits_length any.form (length s) ≡ true
      → read_by rs any (print_by rs any s ∷ ls) ≡ Took s ls
  unfolding read_by print_by fine_rows
  by_back [] any ls h k = rw (same_refl any.key) (line_back any 0 ls (both (is_word any.key) (fine any.form) h).1 (omega arith) (ap (fits_length any.form) (sub-zero (length s)) ∙ k))
  by_back (r ∷ rs) any ls h k =
      let (front, more) = both (fine_row r rs any) (fine_rows rs any) h in
      let (words, new) = both (is_word r.field.key && fine r.field.form) (not (is_in r.field.key (row_keys rs any))) front in
      let (_, good) = both (is_word r.field.key) (fine r.field.form) words in
      by (fits r s) refl good (by_not r.field.key rs any s (not-true (is_in r.field.key (row_keys rs any)) new)) (by_back rs any ls more k) where
        by : (t : Bool) → fits r s ≡ t → fine r.field.form ≡ true → begins r.field.key (print_by rs any s).words ≡ false
            → read_by rs any (print_by rs any s ∷ ls) ≡ Took s ls
            → read_by (r ∷ rs) any (cond t (field_line 0 r.field s (length r.lead)) (print_by rs any s) ∷ ls) ≡ Took s ls
        by true e good alone later = rw (same_refl r.field.key) (row_back r ls good e)
        by false e good alone later = rw alone later

  pub by_lines : (rs : List Row) (any : Field) → fine_rows rs any ≡ true → are_lines (print_by rs any s ∷ []) ≡ true
  unfolding print_by fine_rows
  by_lines [] any h = let (key, good) = both (is_word any.key) (fine any.form) h in one_line 0 any.key (print_form any.form s 0) [] key (form-words s small any.form 0 good) no_lines
  by_lines (r ∷ rs) any h =
      let (front, more) = both (fine_row r rs any) (fine_rows rs any) h in
      let (words, _) = both (is_word r.field.key && fine r.field.form) (not (is_in r.field.key (row_keys rs any))) front in
      let (key, good) = both (is_word r.field.key) (fine r.field.form) words in
      let at = length r.lead in
      by (fits r s) (one_line 0 r.field.key (print_form r.field.form s at) [] key (form-words s small r.field.form at good) no_lines) (by_lines rs any more) where
        by : (t : Bool) → are_lines (field_line 0 r.field s (length r.lead) ∷ []) ≡ true → are_lines (print_by rs any s ∷ []) ≡ true
            → are_lines (cond t (field_line 0 r.field s (length r.lead)) (print_by rs any s) ∷ []) ≡ true
        by true p q = p
        by false p q = q
