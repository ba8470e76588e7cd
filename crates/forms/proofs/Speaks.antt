-- What is printed are words and lines that a text can say. Assumes nothing.
use mathlib.Core.Path.{◌≡◌, refl}
use mathlib.Core.Bool.{Bool, true, false, cond, not, ◌&&◌}
use mathlib.Core.List.{List, [], ◌∷◌, ◌++◌}
use Prim.Native.Nat.{ℕ, zero, suc, ◌+◌, ◌-◌, ◌^◌, ◌%◌, ◌/◌}
use lib.Dec.{leb, ltb, eqb, eqb-suc-zero}
use lib.ListN.{length, drop}
use Rattle.wire.specs.Wire.{number}
use Rattle.hex_digits.specs.Hex.{hex}
use Rattle.words.specs.Words.{word, is_in, all, distinct, flags}
use Rattle.words.specs.Lex.{Line, is_word, are_words, are_lines}
use Rattle.words.proofs.Tests.{both, and}
use Rattle.words.proofs.Hex as Hex
use Rattle.forms.specs.Form.{Form, done, rest, may, part, bits, either, bytes, size, width, fits_length, bytes_at, said, is_blank}
use Rattle.forms.specs.Form.{word_of, rest_words, bit_words, print_form, first_word, fine_part, closed, solid, parted, fine}
use Rattle.forms.specs.Table.{Field, keys, Group, breadth, field_line, print_fields, print_groups, fine_field, fine_fields, fine_group}
use Rattle.forms.proofs.Bytes.{Bytes, rest-bytes}
use Rattle.forms.proofs.Parts.{part_back}

words_append : (a b : List (List ℕ)) → are_words a ≡ true → are_words b ≡ true → are_words (a ++ b) ≡ true
unfolding are_words
words_append [] b h k = k
words_append (w ∷ a) b h k = let (p, q) = both (is_word w) (are_words a) h in and (is_word w) (are_words (a ++ b)) p (words_append a b q k)

chosen : (t : Bool) (a b : List (List ℕ)) → are_words a ≡ true → are_words b ≡ true → are_words (cond t a b) ≡ true
chosen true a b h k = h
chosen false a b h k = k

flag_words : (vs : List (List ℕ)) (n : ℕ) → are_words vs ≡ true → are_words (flags vs n) ≡ true
unfolding are_words flags
flag_words [] n h = refl
flag_words (v ∷ vs) n h =
    let (p, q) = both (is_word v) (are_words vs) h in
    words_append (cond (eqb (n % 2) 1) (v ∷ []) []) (flags vs (n / 2)) (chosen (eqb (n % 2) 1) (v ∷ []) [] (and (is_word v) true p refl) refl) (flag_words vs (n / 2) q)

one_word : (w : List ℕ) (ws : List (List ℕ)) → is_word w ≡ true → are_words ws ≡ true → are_words (w ∷ ws) ≡ true
unfolding are_words
one_word w ws h k = and (is_word w) (are_words ws) h k

no_words : are_words [] ≡ true
unfolding are_words
no_words = refl

pub rest-words : (t : List ℕ) → all (λ b. ltb b 256) t ≡ true → are_words (rest_words t) ≡ true
rest-words [] h = no_words
rest-words (b ∷ t) h = one_word (hex (b ∷ t)) [] (Hex.hex-word b t h) no_words

bits-word : is_word (word "bits") ≡ true
unfolding is_word all
bits-word = refl

pub lines_append : (a b : List Line) → are_lines a ≡ true → are_lines b ≡ true → are_lines (a ++ b) ≡ true
unfolding are_lines
lines_append [] b h k = k
lines_append (l ∷ a) b h k =
    let here = not (eqb (length l.words) 0) && are_words l.words in
    let (p, q) = both here (are_lines a) h in
    and here (are_lines (a ++ b)) p (lines_append a b q k)

pub one_line : (indent : ℕ) (w : List ℕ) (ws : List (List ℕ)) (ls : List Line) → is_word w ≡ true → are_words ws ≡ true → are_lines ls ≡ true
    → are_lines (record { indent = indent; words = w ∷ ws } ∷ ls) ≡ true
unfolding are_lines
one_line indent w ws ls h k m = rw (eqb-suc-zero (length ws)) (and (are_words (w ∷ ws)) (are_lines ls) (one_word w ws h k) m)

pub no_lines : are_lines [] ≡ true
unfolding are_lines
no_lines = refl

maybe_line : (t : Bool) (l : Line) → are_lines (l ∷ []) ≡ true → are_lines (cond t [] (l ∷ [])) ≡ true
maybe_line true l h = no_lines
maybe_line false l h = h

module _ (s : List ℕ) (small : Bytes s) where
  bit-words : (n : ℕ) (vs : List (List ℕ)) (at : ℕ) → leb 1 n ≡ true → are_words vs ≡ true → are_words (bit_words n vs s at) ≡ true
  unfolding bit_words
  bit-words n vs at h k =
      chosen (ltb (number s at n) (2 ^ length vs)) (flags vs (number s at n)) (word "bits" ∷ hex (bytes_at s at n) ∷ []) (flag_words vs (number s at n) k)
      (one_word (word "bits") (hex (bytes_at s at n) ∷ []) bits-word (one_word (hex (bytes_at s at n)) [] (unfold word_of fine_part in (part_back s small at (bytes n) h).speaks) no_words))

  pub form-words : (f : Form) (at : ℕ) → fine f ≡ true → are_words (print_form f s at) ≡ true
  unfolding fine print_form
  form-words done at h = no_words
  form-words rest at h = rest-words (drop at s) (rest-bytes s small at)
  form-words (may f) at h = chosen (is_blank (said f s at)) [] (print_form f s at) no_words (form-words f at (both (solid f && closed f) (fine f) h).1)
  form-words (part p f) at h =
      let (here, more) = both (fine_part p) (fine f) h in
      one_word (word_of p s at) (print_form f s (at + size p)) (part_back s small at p here).speaks (form-words f (at + size p) more)
  form-words (bits n vs f) at h =
      let (h1, more) = both (leb 1 n && leb (2 ^ length vs) (256 ^ n) && are_words vs && distinct (word "bits" ∷ vs) && parted (word "bits" ∷ vs) f) (fine f) h in
      let (h2, _) = both (leb 1 n && leb (2 ^ length vs) (256 ^ n) && are_words vs && distinct (word "bits" ∷ vs)) (parted (word "bits" ∷ vs) f) h1 in
      let (h3, _) = both (leb 1 n && leb (2 ^ length vs) (256 ^ n) && are_words vs) (distinct (word "bits" ∷ vs)) h2 in
      let (h4, words) = both (leb 1 n && leb (2 ^ length vs) (256 ^ n)) (are_words vs) h3 in
      let (some, _) = both (leb 1 n) (leb (2 ^ length vs) (256 ^ n)) h4 in
      words_append (bit_words n vs s at) (print_form f s (at + n)) (bit-words n vs at some words) (form-words f (at + n) more)
  form-words (either f g) at h =
      let (h1, there) = both (is_word (first_word f) && fine f && parted (first_word f ∷ []) g) (fine g) h in
      let (h2, _) = both (is_word (first_word f) && fine f) (parted (first_word f ∷ []) g) h1 in
      let (_, here) = both (is_word (first_word f)) (fine f) h2 in
      chosen (fits_length f (length s - at)) (print_form f s at) (print_form g s at) (form-words f at here) (form-words g at there)

  field-line : (indent : ℕ) (f : Field) (at : ℕ) (ls : List Line) → fine_field f ≡ true → are_lines ls ≡ true → are_lines (field_line indent f s at ∷ ls) ≡ true
  field-line indent f at ls h k =
      let (front, _) = both (is_word f.key && fine f.form) (closed f.form) h in
      let (key, good) = both (is_word f.key) (fine f.form) front in
      one_line indent f.key (print_form f.form s at) ls key (form-words f.form at good) k

  pub fields-lines : (indent : ℕ) (fs : List Field) (at : ℕ) → fine_fields fs ≡ true → are_lines (print_fields indent fs s at) ≡ true
  unfolding fine_fields print_fields
  fields-lines indent [] at h = no_lines
  fields-lines indent (f ∷ fs) at h =
      let (front, more) = both (fine_field f && not (is_in f.key (keys fs))) (fine_fields fs) h in
      let (good, _) = both (fine_field f) (not (is_in f.key (keys fs))) front in
      lines_append (cond (is_blank (said f.form s at)) [] (field_line indent f s at ∷ [])) (print_fields indent fs s (at + width f.form))
      (maybe_line (is_blank (said f.form s at)) (field_line indent f s at) (field-line indent f at [] good no_lines)) (fields-lines indent fs (at + width f.form) more)

  pub groups_lines : (indent : ℕ) (g : Group) (n at : ℕ) → fine_group g ≡ true → are_lines (print_groups indent g n s at) ≡ true
  unfolding fine_group print_groups
  groups_lines indent g zero at h = no_lines
  groups_lines indent g (suc n) at h =
      let (front, good) = both (fine_field g.head && not (is_in g.head.key (keys g.fields))) (fine_fields g.fields) h in
      let (top, _) = both (fine_field g.head) (not (is_in g.head.key (keys g.fields))) front in
      let mine = print_fields (indent + 2) g.fields s (at + width g.head.form) in
      let later = print_groups indent g n s (at + breadth g) in
      let below = fields-lines (indent + 2) g.fields (at + width g.head.form) good in
      field-line indent g.head at (mine ++ later) top (lines_append mine later below (groups_lines indent g n (at + breadth g) h))
