-- What a row says of bytes, by its first mark. Assumes nothing.
use mathlib.Core.Path.{◌≡◌, refl, sym, ap, ◌∙◌}
use mathlib.Core.Bool.{Bool, true, false, ◌&&◌}
use mathlib.Core.List.{List, [], ◌∷◌, ◌++◌, append_assoc}
use Prim.Native.Nat.{ℕ, ◌+◌}
use native.Mathlib.Nat.{zero-add, add-zero, sub-zero}
use lib.Dec.{eqb}
use lib.ListN.{length, drop}
use Rattle.words.specs.Words.{word, all, up_to}
use Rattle.words.specs.Lex.{behind}
use Rattle.lexing.specs.Places.{word_at, words_at, after_word}
use Rattle.forms.specs.Form.{Form, may, fits_length, bytes_at, said, is_blank, word_of, rest_words, bit_words, print_form}
use Rattle.forms.specs.Grammar.{form_in, past}
use Rattle.forms.proofs.Bytes.{whole_from}
use Rattle.forms.proofs.Suffix.{said-from, form-from}
use Rattle.walk.specs.declared.Mark.{Mark as Kind}
use Rattle.walk.specs.declared.Mark.TheVariants.{End, Rest, MayEnd, Opens, Silent, Names, Flags, Number, Bytes, Date, Code, Word}
use Rattle.walk.specs.Marks.{mark_at, size_of, behind_part}
use Rattle.walk.specs.Walk.{Leads}
use Rattle.walk.proofs.Keys.{is_among, tag, never, going}
use Rattle.walk.proofs.Forms.{by_mark}
use Rattle.walk.proofs.Places.{form-by, end_on, rest-on, clause_on, either-on}
use Rattle.put_forms.specs.Printed.{led, part_of}

-- ---- lists

blank_append : (a b : List ℕ) → is_blank (a ++ b) ≡ (is_blank a && is_blank b)
unfolding is_blank all
blank_append [] b = refl
blank_append (c ∷ a) b = by (eqb c 0) (blank_append a b) where
  by : (t : Bool) → all (λ b. eqb b 0) (a ++ b) ≡ (all (λ b. eqb b 0) a && all (λ b. eqb b 0) b) → (t && all (λ b. eqb b 0) (a ++ b)) ≡ (t && all (λ b. eqb b 0) a && all (λ b. eqb b 0) b)
  by true e = e
  by false e = refl

led-behind : (a b : List (List ℕ)) → behind (a ++ b) ≡ led a ++ behind b
led-behind [] b = refl
led-behind (w ∷ a) b = ap (λ (t : List ℕ). 32 ∷ t) (ap (λ (t : List ℕ). w ++ t) (led-behind a b) ∙ sym (append_assoc w (led a) (behind b)))

module _ (f : Form) (s : List ℕ) (n : ℕ) where
  said-on : said f s (0 + n) ≡ said f (drop n s) 0
  said-on = ap (said f s) (zero-add n ∙ sym (add-zero n)) ∙ sym (said-from s n f 0)

  print_on : print_form f s (0 + n) ≡ print_form f (drop n s) 0
  print_on = ap (print_form f s) (zero-add n ∙ sym (add-zero n)) ∙ sym (form-from s n f 0)

-- the marks of one word
abbrev pub parts : List ℕ
parts = 5 ∷ 7 ∷ 8 ∷ 9 ∷ 10 ∷ 11 ∷ []

-- ---- zeros

module _ (w : List ℕ) (ws : List (List ℕ)) (s : List ℕ) where
  none_said : (f : Form) → is_blank (said f s 0) ≡ (is_blank (bytes_at s 0 0) && is_blank (said f (drop 0 s) 0))
  unfolding is_blank all bytes_at
  none_said f = refl

  some-said : (f : Form) (n : ℕ) → is_blank (bytes_at s 0 n ++ said f s (0 + n)) ≡ (is_blank (bytes_at s 0 n) && is_blank (said f (drop n s) 0))
  some-said f n = blank_append (bytes_at s 0 n) (said f s (0 + n)) ∙ ap (λ (t : List ℕ). is_blank (bytes_at s 0 n) && is_blank t) (said-on f s n)

  blank-by : (m : Kind) → is_among going (tag m) ≡ true
      → is_blank (said (by_mark m w ws) s 0) ≡ (is_blank (bytes_at s 0 (size_of m)) && is_blank (said (form_in (behind_part m ws)) (drop (size_of m) s) 0))
  unfolding behind_part
  blank-by End h = never h
  blank-by Rest h = never h
  blank-by Opens h = never h
  blank-by MayEnd h = none_said (form_in ws)
  blank-by Silent h = none_said (form_in ws)
  blank-by Names h = some-said (form_in (past (word "]") ws)) 1
  blank-by (Flags n) h = some-said (form_in (past (word "}") ws)) n
  blank-by (Number n) h = some-said (form_in ws) n
  blank-by (Bytes n) h = some-said (form_in ws) n
  blank-by Date h = some-said (form_in ws) 3
  blank-by Code h = some-said (form_in ws) 2
  blank-by Word h = some-said (form_in ws) 0

  print_by_lem : (m : Kind) → is_among parts (tag m) ≡ true
      → print_form (by_mark m w ws) s 0 ≡ word_of (part_of m w ws) s 0 ∷ print_form (form_in (behind_part m ws)) (drop (size_of m) s) 0
  unfolding behind_part part_of print_form
  print_by_lem End h = never h
  print_by_lem Rest h = never h
  print_by_lem Opens h = never h
  print_by_lem MayEnd h = never h
  print_by_lem Silent h = never h
  print_by_lem (Flags n) h = never h
  print_by_lem Names h = ap (λ (vs : List (List ℕ)). word_of (part_of Names w ws) s 0 ∷ vs) (print_on (form_in (past (word "]") ws)) s 1)
  print_by_lem (Number n) h = ap (λ (vs : List (List ℕ)). word_of (part_of (Number n) w ws) s 0 ∷ vs) (print_on (form_in ws) s n)
  print_by_lem (Bytes n) h = ap (λ (vs : List (List ℕ)). word_of (part_of (Bytes n) w ws) s 0 ∷ vs) (print_on (form_in ws) s n)
  print_by_lem Date h = ap (λ (vs : List (List ℕ)). word_of (part_of Date w ws) s 0 ∷ vs) (print_on (form_in ws) s 3)
  print_by_lem Code h = ap (λ (vs : List (List ℕ)). word_of (part_of Code w ws) s 0 ∷ vs) (print_on (form_in ws) s 2)
  print_by_lem Word h = ap (λ (vs : List (List ℕ)). word_of (part_of Word w ws) s 0 ∷ vs) (print_on (form_in ws) s 0)

-- ---- from a place on

module _ (text : List ℕ) (t : ℕ) (m : Kind) (next : ℕ) (e : m ≡ mark_at text t) (l : Leads text (after_word text t) (behind_part m (words_at text (after_word text t))) next) (s : List ℕ) where
  abbrev here : Form
  here = form_in (words_at text t)

  abbrev on : Form
  on = form_in (words_at text next)

  pub blank-end : m ≡ End → is_blank (said here s 0) ≡ true
  unfolding is_blank all
  blank-end k = ap (λ (f : Form). is_blank (said f s 0)) (end_on text t m next e l k)

  pub blank-rest : m ≡ Rest → is_blank (said here s 0) ≡ is_blank (bytes_at s 0 (length s))
  blank-rest k = ap (λ (f : Form). is_blank (said f s 0)) (rest-on text t m next e l k) ∙ ap is_blank (sym (whole_from s 0 (length s) (zero-add (length s))))

  pub blank_with : m ≡ Opens → fits_length on (length s) ≡ true → is_blank (said here s 0) ≡ is_blank (said on s 0)
  blank_with k h = ap (λ (f : Form). is_blank (said f s 0)) (clause_on text t m next e l k) ∙ rw (sub-zero (length s), h)

  pub blank_without : m ≡ Opens → (b : ℕ) → Leads text next (past (41 ∷ []) (words_at text next)) b → fits_length on (length s) ≡ false
      → is_blank (said here s 0) ≡ is_blank (said (form_in (words_at text b)) s 0)
  blank_without k b n h = ap (λ (f : Form). is_blank (said f s 0)) (either-on text t m next e l k b n) ∙ rw (sub-zero (length s), h)

  pub blank_part : is_among going (tag m) ≡ true → is_blank (said here s 0) ≡ (is_blank (bytes_at s 0 (size_of m)) && is_blank (said on (drop (size_of m) s) 0))
  blank_part h =
      ap (λ (f : Form). is_blank (said f s 0)) (form-by text t m next e l)
      ∙ blank-by (word_at text t) (words_at text (after_word text t)) s m h
      ∙ ap (λ (ws : List (List ℕ)). is_blank (bytes_at s 0 (size_of m)) && is_blank (said (form_in ws) (drop (size_of m) s) 0)) (sym l.says)

  -- ---- printed

  abbrev pub printed : Form → List ℕ
  printed f = behind (print_form f s 0)

  pub print_end : m ≡ End → printed here ≡ 10 ∷ []
  unfolding print_form
  print_end k = ap printed (end_on text t m next e l k)

  pub print_rest_lem : m ≡ Rest → printed here ≡ led (rest_words s) ++ (10 ∷ [])
  unfolding print_form
  print_rest_lem k = ap printed (rest-on text t m next e l k) ∙ by s where
    by : (b : List ℕ) → behind (rest_words b) ≡ led (rest_words b) ++ (10 ∷ [])
    by [] = refl
    by (c ∷ b) = led-behind (rest_words (c ∷ b)) []

  may_here : m ≡ MayEnd → here ≡ may on
  unfolding behind_part
  may_here k =
      form-by text t m next e l
      ∙ ap (λ (k : Kind). by_mark k (word_at text t) (words_at text (after_word text t))) k
      ∙ ap (λ (ws : List (List ℕ)). may (form_in ws)) (sym (l.says ∙ ap (λ (k : Kind). behind_part k (words_at text (after_word text t))) k))

  pub print_over : m ≡ MayEnd → is_blank (said on s 0) ≡ true → printed here ≡ 10 ∷ []
  unfolding print_form
  print_over k h = ap printed (may_here k) ∙ rw h

  pub print_may : m ≡ MayEnd → is_blank (said on s 0) ≡ false → printed here ≡ printed on
  unfolding print_form
  print_may k h = ap printed (may_here k) ∙ rw h

  pub print_silent : m ≡ Silent → printed here ≡ printed on
  unfolding behind_part
  print_silent k =
      ap printed (form-by text t m next e l ∙ ap (λ (k : Kind). by_mark k (word_at text t) (words_at text (after_word text t))) k)
      ∙ ap (λ (ws : List (List ℕ)). printed (form_in ws)) (sym (l.says ∙ ap (λ (k : Kind). behind_part k (words_at text (after_word text t))) k))

  pub print_with : m ≡ Opens → fits_length on (length s) ≡ true → printed here ≡ printed on
  unfolding print_form
  print_with k h = ap printed (clause_on text t m next e l k) ∙ rw (sub-zero (length s), h)

  pub print_without : m ≡ Opens → (b : ℕ) → Leads text next (past (41 ∷ []) (words_at text next)) b → fits_length on (length s) ≡ false
      → printed here ≡ printed (form_in (words_at text b))
  unfolding print_form
  print_without k b n h = ap printed (either-on text t m next e l k b n) ∙ rw (sub-zero (length s), h)

  pub print_flags : (n : ℕ) → m ≡ Flags n
      → printed here ≡ led (bit_words n (up_to (word "}") (words_at text (after_word text t))) s 0) ++ behind (print_form on (drop n s) 0)
  unfolding print_form behind_part
  print_flags n k =
      ap printed (form-by text t m next e l ∙ ap (λ (k : Kind). by_mark k (word_at text t) (words_at text (after_word text t))) k)
      ∙ led-behind (bit_words n (up_to (word "}") (words_at text (after_word text t))) s 0) _
      ∙ ap (λ (ws : List (List ℕ)). led (bit_words n (up_to (word "}") (words_at text (after_word text t))) s 0) ++ behind ws)
      (print_on (form_in (past (word "}") (words_at text (after_word text t)))) s n
      ∙ ap (λ (ws : List (List ℕ)). print_form (form_in ws) (drop n s) 0) (sym (l.says ∙ ap (λ (k : Kind). behind_part k (words_at text (after_word text t))) k)))

  pub print_part : is_among parts (tag m) ≡ true
      → printed here ≡ (32 ∷ []) ++ (word_of (part_of m (word_at text t) (words_at text (after_word text t))) s 0 ++ behind (print_form on (drop (size_of m) s) 0))
  print_part h =
      ap printed (form-by text t m next e l)
      ∙ ap behind (print_by_lem (word_at text t) (words_at text (after_word text t)) s m h)
      ∙ ap (λ (ws : List (List ℕ)). 32 ∷ word_of (part_of m (word_at text t) (words_at text (after_word text t))) s 0 ++ behind (print_form (form_in ws) (drop (size_of m) s) 0))
      (sym l.says)

pub parts_on : (m : Kind) → is_among parts (tag m) ≡ true → eqb (tag m) 0 ≡ false
parts_on End h = never h
parts_on Rest h = refl
parts_on MayEnd h = refl
parts_on Opens h = refl
parts_on Silent h = refl
parts_on Names h = refl
parts_on (Flags n) h = refl
parts_on (Number n) h = refl
parts_on (Bytes n) h = refl
parts_on Date h = refl
parts_on Code h = refl
parts_on Word h = refl

-- the last arm of `put_form`
pub among_parts : (m : Kind) → (m ≡ End → ⊥) → (m ≡ Rest → ⊥) → (m ≡ MayEnd → ⊥) → (m ≡ Opens → ⊥) → (m ≡ Silent → ⊥) → ((x : ℕ) → m ≡ Flags x → ⊥) → is_among parts (tag m) ≡ true
among_parts End a b c d e f = absurd (a refl)
among_parts Rest a b c d e f = absurd (b refl)
among_parts MayEnd a b c d e f = absurd (c refl)
among_parts Opens a b c d e f = absurd (d refl)
among_parts Silent a b c d e f = absurd (e refl)
among_parts Names a b c d e f = refl
among_parts (Flags x) a b c d e f = absurd (f x refl)
among_parts (Number x) a b c d e f = refl
among_parts (Bytes x) a b c d e f = refl
among_parts Date a b c d e f = refl
among_parts Code a b c d e f = refl
among_parts Word a b c d e f = refl
