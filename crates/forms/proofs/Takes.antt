-- What is read are bytes, and as many as the form has. Assumes nothing.
use mathlib.Core.Path.{◌≡◌, refl, sym, ap, ap₂, ◌∙◌}
use mathlib.Core.Bool.{Bool, true, false, cond, not, ◌&&◌, ◌||◌}
use mathlib.Core.List.{List, [], ◌∷◌, ◌++◌}
use Prim.Native.Nat.{ℕ, zero, suc, ◌+◌, ◌*◌, ◌-◌, ◌/◌, ◌%◌, ◌^◌, ◌<◌, ◌≤◌}
use native.Mathlib.Omega.{arith}
use borrow.Author.Tests.{lt-ltb, ltb-true, leb-true, leb-false, lt-leb, eqb-true, not-true}
use lib.Dec.{leb, ltb, eqb}
use lib.ListN.{length, replicate, length-append, length-replicate}
use Rattle.wire.specs.Wire.{byte}
use Rattle.words.specs.Words.{word, same, is_in, all, is_digit, is_number, value, is_hex_digit, hex_value, is_hex, hex_bytes, place_in, distinct, read_flags, begins, tail}
use Rattle.words.specs.Lex.{is_word, are_words}
use Rattle.words.proofs.Tests.{both, and, all_append, same_true}
use Rattle.words.proofs.Hex.{are_bytes}
use Rattle.words.proofs.Said.{kinds, pairs}
use Rattle.forms.specs.Form.{Part, say, count, bytes, named, date, code, Form, done, rest, may, part, bits, either, size, width, big_endian}
use Rattle.forms.specs.Form.{is_letter, date_digits, is_date, says, bytes_in, a_part, hex_pairs, Read, Said, Wrong, before, read_rest, one, line_done, or_zeros, first_word, read_form}
use Rattle.forms.specs.Form.{no_numbers, fine_part, closed, solid, parted, fine}
use Rattle.forms.proofs.Forms.{never}

-- ---- one word

pub one_byte : (b : ℕ) (s : List ℕ) → b < 256 → are_bytes s ≡ true → are_bytes (b ∷ s) ≡ true
unfolding all
one_byte b s h k = and (ltb b 256) (are_bytes s) (lt-ltb b 256 h) k

pub no_bytes : are_bytes [] ≡ true
unfolding all
no_bytes = refl

pub bytes_append : (a b : List ℕ) → are_bytes a ≡ true → are_bytes b ≡ true → are_bytes (a ++ b) ≡ true
bytes_append a b h k = all_append (λ b. ltb b 256) a b h k

pub zero_bytes : (n : ℕ) → are_bytes (replicate n 0) ≡ true
zero_bytes zero = no_bytes
zero_bytes (suc n) = one_byte 0 (replicate n 0) (omega arith) (zero_bytes n)

big-bytes : (n v : ℕ) → are_bytes (big_endian n v) ≡ true
unfolding big_endian
big-bytes zero v = no_bytes
big-bytes (suc n) v = bytes_append (big_endian n (v / 256)) (v % 256 ∷ []) (big-bytes n (v / 256)) (one_byte (v % 256) [] (omega arith) no_bytes)

pub big-size : (n v : ℕ) → length (big_endian n v) ≡ n
unfolding big_endian
big-size zero v = refl
big-size (suc n) v = let more = big-size n (v / 256) in length-append (big_endian n (v / 256)) (v % 256 ∷ []) ∙ omega arith

digit-less : (c : ℕ) → is_hex_digit c ≡ true → hex_value c < 16
digit-less c h = let k = kinds c h in by (leb c 57) (leb c 70) refl refl k.low k.capital k.small k.last where
  by : (a b : Bool) → leb c 57 ≡ a → leb c 70 ≡ b → 48 ≤ c → (57 < c → 65 ≤ c) → (70 < c → 97 ≤ c) → c ≤ 102
      → cond a (c - 48) (cond b (c - 55) (c - 87)) < 16
  by true b p q low capital small last = let f = leb-true c 57 p in omega arith
  by false true p q low capital small last = let f = leb-true c 70 q in omega arith
  by false false p q low capital small last = let f = leb-false c 70 q in omega arith

hex-bytes : (w : List ℕ) → is_hex w ≡ true → are_bytes (hex_bytes w) ≡ true
unfolding is_hex hex_bytes
hex-bytes [] h = no_bytes
hex-bytes (c ∷ []) h = never h
hex-bytes (c ∷ d ∷ s) h =
    let (two, more) = both (is_hex_digit c && is_hex_digit d) (is_hex s) h in
    let (p, q) = both (is_hex_digit c) (is_hex_digit d) two in
    let high = digit-less c p in
    let low = digit-less d q in
    one_byte (hex_value c * 16 + hex_value d) (hex_bytes s) (omega arith) (hex-bytes s more)

hex-size : (w : List ℕ) (n : ℕ) → eqb (length w) (2 * n) ≡ true → length (hex_bytes w) ≡ n
hex-size w n h = let e = eqb-true (length w) (2 * n) h in pairs w ∙ omega arith

place-less : (vs : List (List ℕ)) (w : List ℕ) → is_in w vs ≡ true → place_in vs w < length vs
unfolding is_in place_in
place-less [] w h = never h
place-less (v ∷ vs) w h = by (same w v) h (place-less vs w) where
  by : (t : Bool) → (t || is_in w vs) ≡ true → (is_in w vs ≡ true → place_in vs w < length vs) → cond t 0 (suc (place_in vs w)) < suc (length vs)
  by true h k = omega arith
  by false h k = let less = k h in omega arith

-- so many bytes
pub record Bytes_of (n : ℕ) (b : List ℕ) : Type 0 where
  pub are : are_bytes b ≡ true
  pub many : length b ≡ n

hex_of : (w : List ℕ) (n : ℕ) → is_hex w ≡ true → eqb (length w) (2 * n) ≡ true → Bytes_of n (hex_bytes w)
hex_of w n h k = record { are = hex-bytes w h; many = hex-size w n k }

-- a name is no number
in_no_number : (vs : List (List ℕ)) (w : List ℕ) → no_numbers vs ≡ true → is_in w vs ≡ true → is_number w ≡ false
unfolding is_in no_numbers
in_no_number [] w h k = never k
in_no_number (v ∷ vs) w h k =
    let (here, more) = both (not (is_number v)) (no_numbers vs) h in
    by (same w v) refl k here (in_no_number vs w more) where
      by : (t : Bool) → same w v ≡ t → (t || is_in w vs) ≡ true → not (is_number v) ≡ true → (is_in w vs ≡ true → is_number w ≡ false) → is_number w ≡ false
      by true e k here later = ap is_number (same_true w v e) ∙ not-true (is_number v) here
      by false e k here later = later k

named-less : (vs : List (List ℕ)) (w : List ℕ) → no_numbers vs ≡ true → leb (length vs) 256 ≡ true → ((is_number w && ltb (value w) 256) || is_in w vs) ≡ true
    → cond (is_number w) (value w) (place_in vs w) < 256
named-less vs w none few h = by (is_number w) (ltb (value w) 256) refl refl h where
  place : is_in w vs ≡ true → place_in vs w < 256
  place i = let less = place-less vs w i in let most = leb-true (length vs) 256 few in omega arith

  by : (a b : Bool) → is_number w ≡ a → ltb (value w) 256 ≡ b → ((a && b) || is_in w vs) ≡ true → cond a (value w) (place_in vs w) < 256
  by true true n e h = ltb-true (value w) 256 e
  by true false n e h = let no = in_no_number vs w none h in never (sym no ∙ n)
  by false b n e h = place h

no_letter : (a b c : Bool) → ((a && false) || (b && false) || (c && false)) ≡ false
no_letter true true true = refl
no_letter true true false = refl
no_letter true false true = refl
no_letter true false false = refl
no_letter false true true = refl
no_letter false true false = refl
no_letter false false true = refl
no_letter false false false = refl

letter_less : (c : ℕ) → is_letter c ≡ true → c < 256
letter_less c p = by (leb c 122) refl where
  by : (t : Bool) → leb c 122 ≡ t → c < 256
  by true e = let small = leb-true c 122 e in omega arith
  by false e =
      let large = leb-false c 122 e in
      let no : is_letter c ≡ false = simp (lt-leb c 57 (omega arith), lt-leb c 90 (omega arith), e) (no_letter (leb 48 c) (leb 65 c) (leb 97 c)) in
      never (sym no ∙ p)

letters_bytes : (w : List ℕ) → all is_letter w ≡ true → are_bytes w ≡ true
unfolding all
letters_bytes [] h = refl
letters_bytes (c ∷ w) h = let (p, q) = both (is_letter c) (all is_letter w) h in one_byte c w (letter_less c p) (letters_bytes w q)

code_of : (w : List ℕ) → ((eqb (length w) 2 && all is_letter w) || (is_hex w && eqb (length w) 4)) ≡ true → Bytes_of 2 (cond (eqb (length w) 2) w (hex_bytes w))
code_of w h = by (eqb (length w) 2) (all is_letter w) refl refl h where
  by : (a b : Bool) → eqb (length w) 2 ≡ a → all is_letter w ≡ b → ((a && b) || (is_hex w && eqb (length w) 4)) ≡ true → Bytes_of 2 (cond a w (hex_bytes w))
  by true true e l h = record { are = letters_bytes w l; many = eqb-true (length w) 2 e }
  by true false e l h =
      let (_, four) = both (is_hex w) (eqb (length w) 4) h in
      let two = eqb-true (length w) 2 e in
      let also = eqb-true (length w) 4 four in
      absurd (omega arith)
  by false b e l h = let (hex, four) = both (is_hex w) (eqb (length w) 4) h in hex_of w 2 hex four

date-hex : (w : List ℕ) → all is_digit (date_digits w) ≡ true → is_hex (date_digits w) ≡ true
unfolding all is_hex
date-hex w h =
    let (a, h1) = both (is_digit (byte w 2)) _ h in
    let (b, h2) = both (is_digit (byte w 3)) _ h1 in
    let (c, h3) = both (is_digit (byte w 5)) _ h2 in
    let (d, h4) = both (is_digit (byte w 6)) _ h3 in
    let (e, h5) = both (is_digit (byte w 8)) _ h4 in
    let (f, _) = both (is_digit (byte w 9)) _ h5 in
    rw (a, b, c, d, e, f)

date_of_lem : (w : List ℕ) → (is_date w || (is_hex w && eqb (length w) 6)) ≡ true → Bytes_of 3 (cond (is_date w) (hex_bytes (date_digits w)) (hex_bytes w))
date_of_lem w h = by (is_date w) refl h where
  by : (a : Bool) → is_date w ≡ a → (a || (is_hex w && eqb (length w) 6)) ≡ true → Bytes_of 3 (cond a (hex_bytes (date_digits w)) (hex_bytes w))
  by true e h = hex_of (date_digits w) 3 (date-hex w (digits e)) refl where
    digits : is_date w ≡ true → all is_digit (date_digits w) ≡ true
    digits e = (both (eqb (length w) 10 && eqb (byte w 0) 50 && eqb (byte w 1) 48 && eqb (byte w 4) 45 && eqb (byte w 7) 45) (all is_digit (date_digits w)) (unfold is_date in e)).1
  by false e h = let (hex, six) = both (is_hex w) (eqb (length w) 6) h in hex_of w 3 hex six

part_of : (p : Part) (w : List ℕ) → fine_part p ≡ true → says p w ≡ true → Bytes_of (size p) (bytes_in p w)
unfolding fine_part says bytes_in
part_of (say v) w h k = record { are = no_bytes; many = refl }
part_of (count n) w h k = record { are = big-bytes n (value w); many = big-size n (value w) }
part_of (bytes n) w h k = let (hex, even) = both (is_hex w) (eqb (length w) (2 * n)) k in hex_of w n hex even
part_of (named vs) w h k =
    let (front, few) = both (are_words vs && distinct vs && no_numbers vs) (leb (length vs) 256) h in
    let (_, none) = both (are_words vs && distinct vs) (no_numbers vs) front in
    record { are = one_byte (cond (is_number w) (value w) (place_in vs w)) [] (named-less vs w none few k) no_bytes; many = refl }
part_of date w h k = date_of_lem w k
part_of code w h k = code_of w k

-- ---- a line

-- bytes, and where the form is closed as many as its width
abbrev pub Fits : Bool → ℕ → Read → Type 0
Fits c n (Said b) = (are_bytes b ≡ true) × (c ≡ true → length b ≡ n)
Fits c n (Wrong m w) = Unit

weaker : (c : Bool) (m n : ℕ) (r : Read) → Fits c m r → Fits false n r
weaker c m n (Said b) h = (h.0, λ e. never e)
weaker c m n (Wrong k w) h = tt

before-fits : (c : Bool) (m n : ℕ) (b : List ℕ) (r : Read) → Bytes_of m b → Fits c n r → Fits c (m + n) (before b r)
before-fits c m n b (Said a) g h = (bytes_append b a g.are h.0, λ e. length-append b a ∙ ap₂ ◌+◌ g.many (h.1 e))
before-fits c m n b (Wrong k w) g h = tt

one-fits : (c : Bool) (n : ℕ) (p : Part) (ws : List (List ℕ)) (next : List (List ℕ) → Read) → fine_part p ≡ true → ((ws : List (List ℕ)) → Fits c n (next ws))
    → Fits c (size p + n) (one p ws next)
one-fits c n p [] next h k = tt
one-fits c n p (w ∷ ws) next h k = by (says p w) refl where
  by : (t : Bool) → says p w ≡ t → Fits c (size p + n) (cond t (before (bytes_in p w) (next ws)) (Wrong (length (w ∷ ws)) (a_part p)))
  by true e = before-fits c (size p) n (bytes_in p w) (next ws) (part_of p w h e) (k ws)
  by false e = tt

rest-fits : (ws : List (List ℕ)) → Fits false 0 (read_rest ws)
unfolding read_rest
rest-fits [] = (no_bytes, λ e. refl)
rest-fits (w ∷ ws) = by (is_hex w) refl (rest-fits ws) where
  by : (t : Bool) → is_hex w ≡ t → Fits false 0 (read_rest ws) → Fits false 0 (cond t (before (hex_bytes w) (read_rest ws)) (Wrong (length (w ∷ ws)) hex_pairs))
  by true e more =
      let n = length (hex_bytes w) in
      let all_of = before-fits false n 0 (hex_bytes w) (read_rest ws) (record { are = hex-bytes w e; many = refl }) more in
      weaker false (n + 0) 0 (before (hex_bytes w) (read_rest ws)) all_of
  by false e more = tt

chosen : (t c : Bool) (n : ℕ) (a b : Read) → Fits c n a → Fits c n b → Fits c n (cond t a b)
chosen true c n a b h k = h
chosen false c n a b h k = k

done-fits : (ws : List (List ℕ)) → Fits true 0 (line_done ws)
done-fits [] = (no_bytes, λ e. refl)
done-fits (w ∷ ws) = tt

zeros_fit : (c : Bool) (n : ℕ) (ws : List (List ℕ)) (r : Read) → Fits c n r → Fits c n (or_zeros n ws r)
zeros_fit c n [] r h = (zero_bytes n, λ e. length-replicate n 0)
zeros_fit c n (w ∷ ws) r h = h

hex-fine : (n : ℕ) → leb 1 n ≡ true → fine_part (bytes n) ≡ true
unfolding fine_part
hex-fine n h = h

pub form-fits : (f : Form) (ws : List (List ℕ)) → fine f ≡ true → Fits (closed f) (width f) (read_form f ws)
unfolding fine closed read_form
form-fits done ws h = done-fits ws
form-fits rest ws h = rest-fits ws
form-fits (may f) ws h = zeros_fit (closed f) (width f) ws (read_form f ws) (form-fits f ws (both (solid f && closed f) (fine f) h).1)
form-fits (part p f) ws h = let (here, more) = both (fine_part p) (fine f) h in one-fits (closed f) (width f) p ws (read_form f) here (λ ws. form-fits f ws more)
form-fits (bits n vs f) ws h =
    let (h1, more) = both (leb 1 n && leb (2 ^ length vs) (256 ^ n) && are_words vs && distinct (word "bits" ∷ vs) && parted (word "bits" ∷ vs) f) (fine f) h in
    let (h2, _) = both (leb 1 n && leb (2 ^ length vs) (256 ^ n) && are_words vs && distinct (word "bits" ∷ vs)) (parted (word "bits" ∷ vs) f) h1 in
    let (h3, _) = both (leb 1 n && leb (2 ^ length vs) (256 ^ n) && are_words vs) (distinct (word "bits" ∷ vs)) h2 in
    let (h4, _) = both (leb 1 n && leb (2 ^ length vs) (256 ^ n)) (are_words vs) h3 in
    let (some, _) = both (leb 1 n) (leb (2 ^ length vs) (256 ^ n)) h4 in
    let v = (read_flags vs ws).bits in
    let left = (read_flags vs ws).left in
    chosen (begins (word "bits") ws) (closed f) (n + width f) (one (bytes n) (tail ws) (read_form f)) (before (big_endian n v) (read_form f left))
    (one-fits (closed f) (width f) (bytes n) (tail ws) (read_form f) (hex-fine n some) (λ ws. form-fits f ws more))
    (before-fits (closed f) n (width f) (big_endian n v) (read_form f left) (record { are = big-bytes n v; many = big-size n v }) (form-fits f left more))
form-fits (either f g) ws h =
    let (h1, there) = both (is_word (first_word f) && fine f && parted (first_word f ∷ []) g) (fine g) h in
    let (h2, _) = both (is_word (first_word f) && fine f) (parted (first_word f ∷ []) g) h1 in
    let (_, here) = both (is_word (first_word f)) (fine f) h2 in
    chosen (begins (first_word f) ws) false (width g) (read_form f ws) (read_form g ws)
    (weaker (closed f) (width f) (width g) (read_form f ws) (form-fits f ws here)) (weaker (closed g) (width g) (width g) (read_form g ws) (form-fits g ws there))
