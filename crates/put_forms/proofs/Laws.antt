-- Bytes, names and flags one by one. Assumes nothing.
use mathlib.Core.Path.{◌≡◌, refl, sym, ap, ap₂, ◌∙◌}
use mathlib.Core.Bool.{Bool, true, false, cond, ◌&&◌, and-true}
use mathlib.Core.List.{List, [], ◌∷◌, ◌++◌, append_assoc, append-nil}
use Prim.Native.Nat.{ℕ, zero, suc, ◌+◌, ◌*◌, ◌-◌, ◌/◌, ◌%◌, ◌^◌, ◌<◌}
use native.Mathlib.Nat.{zero-add, pow-suc, one-le-pow}
use native.Mathlib.Omega.{arith}
use borrow.Author.Tests.{lt-ltb, le-ltb, ltb-true, ltb-false, ne_eqb, eq-eqb}
use lib.Dec.{ltb, eqb, lit<}
use lib.ListN.{length}
use Rattle.std.specs.List.{list_all, range_with_len}
use Rattle.wire.specs.Wire.{byte, number, is_pair}
use Rattle.hex_digits.specs.Hex.{hex_byte, hex}
use Rattle.words.specs.Words.{word, all, name_of, flags, up_to}
use Rattle.lexing.specs.Places.{word_at, words_at, next_word, after_word}
use Rattle.lexing.specs.Names.{names_at, is_name}
use Rattle.lexing.proofs.Laws.{words-next, next-behind}
use Rattle.lexing.proofs.Named.{names_more, no_names, name_in, name-passed, stands-next}
use Rattle.forms.specs.Form.{date, code, bytes_at, is_blank, is_letter, date_text, word_of, rest_words, bit_words}
use Rattle.forms.proofs.Bytes.{split_at}
use Rattle.put_forms.specs.Printed.{led}

-- ---- bytes

one_zero : (s : List ℕ) (at n : ℕ) → is_blank (bytes_at s at (suc n)) ≡ (eqb (byte s at) 0 && is_blank (bytes_at s (suc at) n))
unfolding is_blank all bytes_at
one_zero s at n = refl

pub all-zeros : (s : List ℕ) (i n : ℕ) → list_all (λ k. eqb (byte s k) 0) (range_with_len i n) ≡ is_blank (bytes_at s i n)
unfolding is_blank all bytes_at
all-zeros s i zero = refl
all-zeros s i (suc n) = let next : i + 1 ≡ suc i = omega arith in rw (next, all-zeros s (suc i) n) (sym (one_zero s i n))

hex_append : (s t : List ℕ) → hex (s ++ t) ≡ hex s ++ hex t
unfolding hex
hex_append [] t = refl
hex_append (b ∷ s) t = rw (hex_append s t) (sym (append_assoc (hex_byte b) (hex s) (hex t)))

pub hex-next : (s : List ℕ) (i : ℕ) → hex (bytes_at s 0 (i + 1)) ≡ hex (bytes_at s 0 i) ++ hex_byte (byte s i)
unfolding hex bytes_at
hex-next s i = ap hex (split_at s 0 i 1) ∙ hex_append (bytes_at s 0 i) (bytes_at s (0 + i) 1) ∙ ap (λ k. hex (bytes_at s 0 i) ++ hex_byte (byte s k)) (zero-add i)

pub rest_some : (s : List ℕ) → (length s ≡ 0 → ⊥) → led (rest_words s) ≡ (32 ∷ []) ++ hex s
rest_some [] h = absurd (h refl)
rest_some (b ∷ s) h = ap (λ (t : List ℕ). 32 ∷ t) (append-nil (hex (b ∷ s)))

pub rest-none : (s : List ℕ) → length s ≡ 0 → led (rest_words s) ≡ []
rest-none [] h = refl
rest-none (b ∷ s) h = absurd (omega arith)

-- ---- names

module _ (close grammar : List ℕ) (t : ℕ) where
  abbrev name : ℕ
  name = next_word grammar t

  abbrev pub names : List (List ℕ)
  names = up_to close (words_at grammar t)

  abbrev others : List (List ℕ)
  others = up_to close (words_at grammar (after_word grammar name))

  from-name : names ≡ names_at close grammar name
  unfolding names_at
  from-name = ap (up_to close) (sym (words-next grammar t))

  pub names-none : is_name close grammar name ≡ false → names ≡ []
  names-none h = from-name ∙ no_names close grammar name (stands-next grammar t) h

  pub names-some : is_name close grammar name ≡ true → names ≡ word_at grammar name ∷ others
  unfolding names_at
  names-some h = from-name ∙ names_more close grammar name (stands-next grammar t) h

  pub names-on : is_name close grammar name ≡ true → (t < after_word grammar name) × (t < length grammar)
  names-on h =
      let next = next-behind grammar t in
      let passed = name-passed close grammar name (stands-next grammar t) h in
      let inside = name_in close grammar name h in
      (omega arith, omega arith)

  -- the name of a number
  pub named_none : (n : ℕ) (other : List ℕ) → is_name close grammar name ≡ false → name_of names n other ≡ other
  unfolding name_of
  named_none n other h = ap (λ (vs : List (List ℕ)). name_of vs n other) (names-none h)

  pub named_here : (n : ℕ) (other : List ℕ) → is_name close grammar name ≡ true → n ≡ 0 → name_of names n other ≡ word_at grammar name
  unfolding name_of
  named_here n other h e = ap₂ (λ (vs : List (List ℕ)) (k : ℕ). name_of vs k other) (names-some h) e

  pub named-on : (n : ℕ) (other : List ℕ) → is_name close grammar name ≡ true → (n ≡ 0 → ⊥) → name_of names n other ≡ name_of others (n - 1) other
  unfolding name_of
  named-on n other h k = let more : n ≡ suc (n - 1) = omega (arith, k) in ap₂ (λ (vs : List (List ℕ)) (j : ℕ). name_of vs j other) (names-some h) more

  -- the names of the bits that are set
  pub flags-none : (n : ℕ) → is_name close grammar name ≡ false → led (flags names n) ≡ []
  unfolding flags
  flags-none n h = ap (λ (vs : List (List ℕ)). led (flags vs n)) (names-none h)

  flags-more : (n : ℕ) → is_name close grammar name ≡ true → led (flags names n) ≡ led (cond (eqb (n % 2) 1) (word_at grammar name ∷ []) [] ++ flags others (n / 2))
  unfolding flags
  flags-more n h = ap (λ (vs : List (List ℕ)). led (flags vs n)) (names-some h)

  pub flags-off : (n : ℕ) → is_name close grammar name ≡ true → (n % 2 ≡ 1 → ⊥) → led (flags names n) ≡ led (flags others (n / 2))
  flags-off n h k = flags-more n h ∙ ap (λ (b : Bool). led (cond b (word_at grammar name ∷ []) [] ++ flags others (n / 2))) (ne_eqb (n % 2) 1 k)

  pub flags-on : (n : ℕ) → is_name close grammar name ≡ true → n % 2 ≡ 1 → led (flags names n) ≡ (32 ∷ []) ++ (word_at grammar name ++ led (flags others (n / 2)))
  flags-on n h k = flags-more n h ∙ ap (λ (b : Bool). led (cond b (word_at grammar name ∷ []) [] ++ flags others (n / 2))) (eq-eqb (n % 2) 1 k)

  -- every bit that is set has a name
  pub fits_zero : (n : ℕ) → n ≡ 0 → ltb n (2 ^ length names) ≡ true
  fits_zero n e = let some = one-le-pow (length names) 2 (lit< tt) in lt-ltb n (2 ^ length names) (omega arith)

  pub fits-none : (n : ℕ) → is_name close grammar name ≡ false → (n ≡ 0 → ⊥) → ltb n (2 ^ length names) ≡ false
  fits-none n h k = ap (λ (vs : List (List ℕ)). ltb n (2 ^ length vs)) (names-none h) ∙ le-ltb n 1 (omega (arith, k))

  pub fits_half : (n : ℕ) → is_name close grammar name ≡ true → ltb n (2 ^ length names) ≡ ltb (n / 2) (2 ^ length others)
  fits_half n h = ap (λ (vs : List (List ℕ)). ltb n (2 ^ length vs)) (names-some h) ∙ ap (ltb n) (pow-suc 2 (length others)) ∙ go (2 ^ length others) where
    by : (m : ℕ) (b : Bool) → ltb n (m * 2) ≡ b → b ≡ ltb (n / 2) m
    by m true e = let less = ltb-true n (m * 2) e in sym (lt-ltb (n / 2) m (omega arith))
    by m false e = let more = ltb-false n (m * 2) e in sym (le-ltb (n / 2) m (omega arith))

    go : (m : ℕ) → ltb n (m * 2) ≡ ltb (n / 2) m
    go m = by m (ltb n (m * 2)) refl

-- ---- a response code and a date

module _ (s : List ℕ) where
  pub code_not : (is_letter (byte s 0) && is_letter (byte s 1)) ≡ false → word_of code s 0 ≡ hex (bytes_at s 0 2)
  unfolding word_of bytes_at all
  code_not h = rw (and-true (is_letter (byte s 1)), h)

  pub code_is : (is_letter (byte s 0) && is_letter (byte s 1)) ≡ true → word_of code s 0 ≡ (byte s 0 ∷ []) ++ (byte s 1 ∷ [])
  unfolding word_of bytes_at all
  code_is h = rw (and-true (is_letter (byte s 1)), h)

  all-pairs : all is_pair (bytes_at s 0 3) ≡ (is_pair (byte s 0) && is_pair (byte s 1) && is_pair (byte s 2))
  unfolding bytes_at all
  all-pairs = by (is_pair (byte s 0)) (is_pair (byte s 1)) (is_pair (byte s 2)) where
    by : (a b c : Bool) → (a && (b && (c && true))) ≡ (a && b && c)
    by false b c = refl
    by true false c = refl
    by true true false = refl
    by true true true = refl

  pub date_not : (is_pair (byte s 0) && is_pair (byte s 1) && is_pair (byte s 2)) ≡ false → word_of date s 0 ≡ hex (bytes_at s 0 3)
  unfolding word_of
  date_not h = rw (all-pairs ∙ h)

  pub date-is : (is_pair (byte s 0) && is_pair (byte s 1) && is_pair (byte s 2)) ≡ true
      → word_of date s 0 ≡ word "20" ++ (hex_byte (byte s 0) ++ (word "-" ++ (hex_byte (byte s 1) ++ (word "-" ++ hex_byte (byte s 2)))))
  unfolding word_of
  date-is h = ap (λ (b : Bool). cond b (date_text s 0) (hex (bytes_at s 0 3))) (all-pairs ∙ h) ∙ written where
    written : date_text s 0 ≡ word "20" ++ (hex_byte (byte s 0) ++ (word "-" ++ (hex_byte (byte s 1) ++ (word "-" ++ hex_byte (byte s 2)))))
    written = unfold hex bytes_at in refl

  -- ---- flags

  module _ (n : ℕ) (vs : List (List ℕ)) where
    pub bits-named : ltb (number s 0 n) (2 ^ length vs) ≡ true → led (bit_words n vs s 0) ≡ led (flags vs (number s 0 n))
    unfolding bit_words
    bits-named h = rw h

    pub bits_not : ltb (number s 0 n) (2 ^ length vs) ≡ false → led (bit_words n vs s 0) ≡ word " bits " ++ hex (bytes_at s 0 n)
    unfolding bit_words
    bits_not h = rw h (ap (λ (t : List ℕ). word " bits " ++ t) (append-nil (hex (bytes_at s 0 n))))
