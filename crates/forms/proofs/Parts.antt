-- What one word says reads back. Assumes nothing.
use mathlib.Core.Path.{◌≡◌, refl, ap, ◌∙◌}
use mathlib.Core.Bool.{Bool, true, false, cond, not, ◌&&◌, ◌||◌}
use mathlib.Core.List.{List, [], ◌∷◌}
use Prim.Native.Nat.{ℕ, zero, suc, ◌+◌, ◌*◌, ◌/◌, ◌%◌, ◌^◌, ◌<◌}
use native.Mathlib.Omega.{arith}
use borrow.Author.Tests.{lt-ltb, ltb-true, ltb-false, leb-true, leb-false, le-leb, lt-leb, eq-eqb, not-true}
use lib.Dec.{leb, ltb, eqb}
use lib.ListN.{length}
use Rattle.wire.specs.Wire.{byte, number, is_pair}
use Rattle.numerals.specs.Numeral.{numeral}
use Rattle.hex_digits.specs.Hex.{hex_digit, hex}
use Rattle.hex_digits.proofs.Bytes.{size as hex-size}
use Rattle.words.specs.Words.{is_in, all, is_digit, is_number, value, is_hex, name_of, distinct}
use Rattle.words.specs.Lex.{is_plain, is_word, are_words}
use Rattle.words.proofs.Tests.{both, and, same_refl}
use Rattle.words.proofs.Decimal as Decimal
use Rattle.words.proofs.Hex as Hex
use Rattle.words.proofs.Names.{name_in, no_name, place_back}
use Rattle.forms.specs.Form.{Part, say, count, bytes, named, date, code, size, bytes_at, big_endian, is_letter, date_text, word_of, is_date, says, bytes_in, no_numbers, fine_part}
use Rattle.forms.proofs.Bytes.{Bytes, size-at, bytes-at, number-less, number_back}

pub record Back (p : Part) (w : List ℕ) (b : List ℕ) : Type 0 where
  pub is : says p w ≡ true
  pub tells : bytes_in p w ≡ b
  pub speaks : is_word w ≡ true

or_left : (a b : Bool) → a ≡ true → (a || b) ≡ true
or_left a b e = rw e

or_right : (a b : Bool) → b ≡ true → (a || b) ≡ true
or_right true b e = refl
or_right false b e = e

no_number : (vs : List (List ℕ)) (n : ℕ) (other : List ℕ) → no_numbers vs ≡ true → n < length vs → is_number (name_of vs n other) ≡ false
unfolding no_numbers name_of
no_number [] n other h k = absurd (omega arith)
no_number (v ∷ vs) zero other h k = not-true (is_number v) (both (not (is_number v)) (no_numbers vs) h).0
no_number (v ∷ vs) (suc n) other h k = no_number vs n other (both (not (is_number v)) (no_numbers vs) h).1 (omega arith)

name-word : (vs : List (List ℕ)) (n : ℕ) (other : List ℕ) → are_words vs ≡ true → n < length vs → is_word (name_of vs n other) ≡ true
unfolding are_words name_of
name-word [] n other h k = absurd (omega arith)
name-word (v ∷ vs) zero other h k = (both (is_word v) (are_words vs) h).0
name-word (v ∷ vs) (suc n) other h k = name-word vs n other (both (is_word v) (are_words vs) h).1 (omega arith)

-- a letter or digit is at least "0"
letter_plain : (c : ℕ) → is_letter c ≡ true → is_plain c ≡ true
letter_plain c h = by (leb 48 c) refl where
  by : (t : Bool) → leb 48 c ≡ t → is_plain c ≡ true
  by true e = Decimal.above-plain c (omega (arith, leb-true 48 c e))
  by false e =
      let low = leb-false 48 c e in
      let no : is_letter c ≡ false = simp (e, lt-leb 65 c (omega arith), lt-leb 97 c (omega arith)) in
      cc

letters_plain : (s : List ℕ) → all is_letter s ≡ true → all is_plain s ≡ true
unfolding all
letters_plain [] h = refl
letters_plain (c ∷ s) h =
    let (p, q) = both (is_letter c) (all is_letter s) h in
    and (is_plain c) (all is_plain s) (letter_plain c p) (letters_plain s q)

letters_word : (c : ℕ) (s : List ℕ) → all is_letter (c ∷ s) ≡ true → is_word (c ∷ s) ≡ true
unfolding is_word
letters_word c s h = letters_plain (c ∷ s) h

-- a half that is a decimal digit
low_digit : (n : ℕ) → leb n 9 ≡ true → (is_digit (hex_digit n) ≡ true) × (is_plain (hex_digit n) ≡ true)
low_digit n h =
    let small = leb-true n 9 h in
    rw (lt-ltb n 10 (omega arith)) (
      and (leb 48 (48 + n)) (leb (48 + n) 57) (le-leb 48 (48 + n) (omega arith)) (le-leb (48 + n) 57 (omega arith)),
      Decimal.above-plain (48 + n) (omega arith),
    )

record Digits (b : ℕ) : Type 0 where
  high : is_digit (hex_digit (b / 16)) ≡ true
  low : is_digit (hex_digit (b % 16)) ≡ true
  high_plain : is_plain (hex_digit (b / 16)) ≡ true
  low_plain : is_plain (hex_digit (b % 16)) ≡ true

pair-digits : (b : ℕ) → is_pair b ≡ true → Digits b
pair-digits b h =
    let (p, q) = both (leb (b / 16) 9) (leb (b % 16) 9) h in
    let (high, high_plain) = low_digit (b / 16) p in
    let (low, low_plain) = low_digit (b % 16) q in
    record { high = high; low = low; high_plain = high_plain; low_plain = low_plain }

module _ (s : List ℕ) (small : Bytes s) (at : ℕ) where
  say_back : (w : List ℕ) → is_word w ≡ true → Back (say w) w (bytes_at s at 0)
  unfolding says bytes_in bytes_at
  say_back w h = record { is = same_refl w; tells = refl; speaks = h }

  count_back : (n : ℕ) → leb (256 ^ n) (2 ^ 64) ≡ true → Back (count n) (numeral (number s at n)) (bytes_at s at n)
  unfolding says bytes_in
  count_back n h =
      let less = number-less s small at n in
      let fits = leb-true (256 ^ n) (2 ^ 64) h in
      let v = number s at n in
      let same : value (numeral v) ≡ v = Decimal.reads_back v (omega arith) in
      record {
        is = and (is_number (numeral v)) (ltb (value (numeral v)) (256 ^ n)) (Decimal.is-number v) (rw same (lt-ltb v (256 ^ n) less));
        tells = ap (big_endian n) same ∙ number_back s small at n;
        speaks = Decimal.number_word (numeral v) (Decimal.is-number v);
      }

  hex-word-at : (n : ℕ) → leb 1 n ≡ true → is_word (hex (bytes_at s at n)) ≡ true
  unfolding bytes_at
  hex-word-at zero h = let z : ◌≡◌ {A = ℕ} 0 1 = cc in absurd (omega arith)
  hex-word-at (suc n) h = Hex.hex-word (byte s at) (bytes_at s (suc at) n) (bytes-at s small at (suc n))

  hex_back : (n : ℕ) → leb 1 n ≡ true → Back (bytes n) (hex (bytes_at s at n)) (bytes_at s at n)
  unfolding says bytes_in
  hex_back n h =
      let b = bytes-at s small at n in
      record {
        is = and (is_hex (hex (bytes_at s at n))) (eqb (length (hex (bytes_at s at n))) (2 * n)) (Hex.is-hex (bytes_at s at n) b)
            (eq-eqb (length (hex (bytes_at s at n))) (2 * n) (hex-size (bytes_at s at n) ∙ ap (λ k. 2 * k) (size-at s at n)));
        tells = Hex.reads_back (bytes_at s at n) b;
        speaks = hex-word-at n h;
      }

  named_back : (vs : List (List ℕ)) → are_words vs ≡ true → distinct vs ≡ true → no_numbers vs ≡ true
      → Back (named vs) (name_of vs (byte s at) (numeral (byte s at))) (bytes_at s at 1)
  unfolding says bytes_in bytes_at
  named_back vs words apart none = by (ltb (byte s at) (length vs)) refl where
    by : (t : Bool) → ltb (byte s at) (length vs) ≡ t → Back (named vs) (name_of vs (byte s at) (numeral (byte s at))) (bytes_at s at 1)
    by true e =
        let v = byte s at in
        let w = name_of vs v (numeral v) in
        let less = ltb-true v (length vs) e in
        let not-number : is_number w ≡ false = no_number vs v (numeral v) none less in
        record {
          is = or_right (is_number w && ltb (value w) 256) (is_in w vs) (name_in vs v (numeral v) less);
          tells = rw not-number (ap (λ n. n ∷ []) (place_back vs v (numeral v) apart less));
          speaks = name-word vs v (numeral v) words less;
        }
    by false e =
        let v = byte s at in
        let past = ltb-false v (length vs) e in
        let less = small at in
        let number : value (numeral v) ≡ v = Decimal.reads_back v (omega arith) in
        let is_one = Decimal.is-number v in
        rw (no_name vs v (numeral v) past) (record {
          is = or_left (is_number (numeral v) && ltb (value (numeral v)) 256) (is_in (numeral v) vs) (and (is_number (numeral v)) (ltb (value (numeral v)) 256) is_one (rw number (lt-ltb v 256 less)));
          tells = rw (is_one, number);
          speaks = Decimal.number_word (numeral v) is_one;
        })

  -- two letters or digits
  code_letters : all is_letter (bytes_at s at 2) ≡ true → Back code (bytes_at s at 2) (bytes_at s at 2)
  unfolding says bytes_in bytes_at
  code_letters e = record { is = or_left (all is_letter (bytes_at s at 2)) (is_hex (bytes_at s at 2) && false) e; tells = refl; speaks = letters_word (byte s at) (bytes_at s (suc at) 1) e }

  code-hex : Back code (hex (bytes_at s at 2)) (bytes_at s at 2)
  unfolding says bytes_in
  code-hex =
      let w = hex (bytes_at s at 2) in
      let four : length w ≡ 4 = hex-size (bytes_at s at 2) ∙ ap (λ k. 2 * k) (size-at s at 2) in
      let h = hex_back 2 refl in
      record {
        is = rw (four, Hex.is-hex (bytes_at s at 2) (bytes-at s small at 2));
        tells = rw four (Hex.reads_back (bytes_at s at 2) (bytes-at s small at 2));
        speaks = hex-word-at 2 refl;
      }

  by_letters : (t : Bool) → all is_letter (bytes_at s at 2) ≡ t → Back code (cond t (bytes_at s at 2) (hex (bytes_at s at 2))) (bytes_at s at 2)
  by_letters true e = code_letters e
  by_letters false e = code-hex

  -- 20_yy-MM-DD
  date-text : all is_pair (bytes_at s at 3) ≡ true → Back date (date_text s at) (bytes_at s at 3)
  unfolding says bytes_in is_date is_word bytes_at all hex
  date-text h =
      let next : at + 1 ≡ suc at = omega arith in
      let last : at + 2 ≡ suc (suc at) = omega arith in
      let (a, more) = both (is_pair (byte s at)) (is_pair (byte s (suc at)) && (is_pair (byte s (suc (suc at))) && true)) h in
      let (b, end) = both (is_pair (byte s (suc at))) (is_pair (byte s (suc (suc at))) && true) more in
      let (c, _) = both (is_pair (byte s (suc (suc at)))) true end in
      let x = pair-digits (byte s at) a in
      let y = pair-digits (byte s (suc at)) b in
      let z = pair-digits (byte s (suc (suc at))) c in
      let good : is_date (date_text s at) ≡ true = rw (next, last, x.high, x.low, y.high, y.low, z.high, z.low) in
      record {
        is = rw good;
        tells = rw good (rw (next, last) (Hex.reads_back (bytes_at s at 3) (bytes-at s small at 3)));
        speaks = rw (next, last, x.high_plain, x.low_plain, y.high_plain, y.low_plain, z.high_plain, z.low_plain);
      }

  date-hex : Back date (hex (bytes_at s at 3)) (bytes_at s at 3)
  unfolding says bytes_in is_date
  date-hex =
      let w = hex (bytes_at s at 3) in
      let six : length w ≡ 6 = hex-size (bytes_at s at 3) ∙ ap (λ k. 2 * k) (size-at s at 3) in
      record {
        is = rw (six, Hex.is-hex (bytes_at s at 3) (bytes-at s small at 3));
        tells = rw six (Hex.reads_back (bytes_at s at 3) (bytes-at s small at 3));
        speaks = hex-word-at 3 refl;
      }

  by-pairs : (t : Bool) → all is_pair (bytes_at s at 3) ≡ t → Back date (cond t (date_text s at) (hex (bytes_at s at 3))) (bytes_at s at 3)
  by-pairs true e = date-text e
  by-pairs false e = date-hex

  -- THE LAW OF A WORD
  pub part_back : (p : Part) → fine_part p ≡ true → Back p (word_of p s at) (bytes_at s at (size p))
  unfolding fine_part word_of
  part_back (say w) h = say_back w h
  part_back (count n) h = count_back n h
  part_back (bytes n) h = hex_back n h
  part_back (named vs) h =
      let (few, _) = both (are_words vs && distinct vs && no_numbers vs) (leb (length vs) 256) h in
      let (front, none) = both (are_words vs && distinct vs) (no_numbers vs) few in
      let (words, apart) = both (are_words vs) (distinct vs) front in
      named_back vs words apart none
  part_back date h = by-pairs (all is_pair (bytes_at s at 3)) refl
  part_back code h = by_letters (all is_letter (bytes_at s at 2)) refl
