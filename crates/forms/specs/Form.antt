-- What a line says: one form for printing and for reading.
use Rattle.std.specs.Prelude.{Bool, true, false, cond, not, ◌&&◌, ◌||◌, List, [], ◌∷◌, ◌++◌, ℕ, zero, suc, ◌+◌, ◌*◌, ◌-◌, ◌/◌, ◌%◌, ◌^◌, leb, ltb, eqb, length, drop, replicate}
use Rattle.wire.specs.Wire.{byte, number, is_pair}
use Rattle.numerals.specs.Numeral.{numeral}
use Rattle.hex_digits.specs.Hex.{hex}
use Rattle.words.specs.Words.{word, same, is_in, all, is_digit, is_number, value, is_hex, hex_bytes, name_of, place_in, distinct, flags, read_flags, begins, tail}
use Rattle.words.specs.Lex.{is_word, are_words}

-- what one word says
pub data Part : Type 0 where
  say : List ℕ → Part  -- the word itself, and no byte
  count : ℕ → Part  -- a number in so many bytes, in decimal
  bytes : ℕ → Part  -- so many bytes, in hex
  named : List (List ℕ) → Part  -- a byte, by its name or in decimal
  date : Part  -- three bytes YYMMDD, as 20_yy-MM-DD or in hex
  code : Part  -- two bytes, as letters or digits or in hex

-- what a line says behind its first word
pub data Form : Type 0 where
  done : Form  -- the line ends
  rest : Form  -- all the bytes that are left, in hex
  may : Form → Form  -- the line may end where all that follows is zeros
  part : Part → Form → Form
  bits : ℕ → List (List ℕ) → Form → Form  -- the names of the bits that are set in so many bytes
  either : Form → Form → Form  -- with a clause, whose first word says that it is there, or without it

abbrev pub size : Part → ℕ
size (say w) = 0
size (count n) = n
size (bytes n) = n
size (named vs) = 1
size date = 3
size code = 2

-- the bytes of a form, less those of its clauses and its rest
abbrev pub width : Form → ℕ
width done = 0
width rest = 0
width (may f) = width f
width (part p f) = size p + width f
width (bits n vs f) = n + width f
width (either f g) = width g

-- the form says so many bytes
unfoldable pub fits_length : Form → ℕ → Bool
fits_length done n = eqb n 0
fits_length rest n = true
fits_length (may f) n = fits_length f n
fits_length (part p f) n = leb (size p) n && fits_length f (n - size p)
fits_length (bits m vs f) n = leb m n && fits_length f (n - m)
fits_length (either f g) n = fits_length f n || fits_length g n

-- n bytes from a place on
unfoldable pub bytes_at : List ℕ → ℕ → ℕ → List ℕ
bytes_at s at zero = []
bytes_at s at (suc n) = byte s at ∷ bytes_at s (suc at) n

-- a number in so many bytes
unfoldable pub big_endian : ℕ → ℕ → List ℕ
big_endian zero v = []
big_endian (suc n) v = big_endian n (v / 256) ++ v % 256 ∷ []

-- the bytes that a form is about, from a place on
abbrev pub said : Form → List ℕ → ℕ → List ℕ
said done s at = []
said rest s at = drop at s
said (may f) s at = said f s at
said (part p f) s at = bytes_at s at (size p) ++ said f s (at + size p)
said (bits n vs f) s at = bytes_at s at n ++ said f s (at + n)
said (either f g) s at = cond (fits_length f (length s - at)) (said f s at) (said g s at)

unfoldable pub is_blank : List ℕ → Bool
is_blank s = all (λ b. eqb b 0) s

-- ---- printed

abbrev pub is_letter : ℕ → Bool
is_letter c = is_digit c || (leb 65 c && leb c 90) || (leb 97 c && leb c 122)

abbrev pub date_text : List ℕ → ℕ → List ℕ
date_text s at = word "20" ++ (hex (bytes_at s at 1) ++ (word "-" ++ (hex (bytes_at s (at + 1) 1) ++ (word "-" ++ hex (bytes_at s (at + 2) 1)))))

unfoldable pub word_of : Part → List ℕ → ℕ → List ℕ
word_of (say w) s at = w
word_of (count n) s at = numeral (number s at n)
word_of (bytes n) s at = hex (bytes_at s at n)
word_of (named vs) s at = name_of vs (byte s at) (numeral (byte s at))
word_of date s at = cond (all is_pair (bytes_at s at 3)) (date_text s at) (hex (bytes_at s at 3))
word_of code s at = cond (all is_letter (bytes_at s at 2)) (bytes_at s at 2) (hex (bytes_at s at 2))

abbrev pub rest_words : List ℕ → List (List ℕ)
rest_words [] = []
rest_words (b ∷ s) = hex (b ∷ s) ∷ []

unfoldable pub bit_words : ℕ → List (List ℕ) → List ℕ → ℕ → List (List ℕ)
bit_words n vs s at =
    cond (ltb (number s at n) (2 ^ length vs)) (flags vs (number s at n)) (word "bits" ∷ hex (bytes_at s at n) ∷ [])

unfoldable pub print_form : Form → List ℕ → ℕ → List (List ℕ)
print_form done s at = []
print_form rest s at = rest_words (drop at s)
print_form (may f) s at = cond (is_blank (said f s at)) [] (print_form f s at)
print_form (part p f) s at = word_of p s at ∷ print_form f s (at + size p)
print_form (bits n vs f) s at = bit_words n vs s at ++ print_form f s (at + n)
print_form (either f g) s at = cond (fits_length f (length s - at)) (print_form f s at) (print_form g s at)

-- ---- read

-- the six digits of 20_yy-MM-DD
abbrev pub date_digits : List ℕ → List ℕ
date_digits w = byte w 2 ∷ byte w 3 ∷ byte w 5 ∷ byte w 6 ∷ byte w 8 ∷ byte w 9 ∷ []

-- 45 is "-"
unfoldable pub is_date : List ℕ → Bool
is_date w =
    eqb (length w) 10 && eqb (byte w 0) 50 && eqb (byte w 1) 48 && eqb (byte w 4) 45 && eqb (byte w 7) 45 && all is_digit (date_digits w)

unfoldable pub says : Part → List ℕ → Bool
says (say v) w = same w v
says (count n) w = is_number w && ltb (value w) (256 ^ n)
says (bytes n) w = is_hex w && eqb (length w) (2 * n)
says (named vs) w = (is_number w && ltb (value w) 256) || is_in w vs
says date w = is_date w || (is_hex w && eqb (length w) 6)
says code w = (eqb (length w) 2 && all is_letter w) || (is_hex w && eqb (length w) 4)

unfoldable pub bytes_in : Part → List ℕ → List ℕ
bytes_in (say v) w = []
bytes_in (count n) w = big_endian n (value w)
bytes_in (bytes n) w = hex_bytes w
bytes_in (named vs) w = cond (is_number w) (value w) (place_in vs w) ∷ []
bytes_in date w = cond (is_date w) (hex_bytes (date_digits w)) (hex_bytes w)
bytes_in code w = cond (eqb (length w) 2) w (hex_bytes w)

-- what was expected where a text is wrong
pub data Want : Type 0 where
  a_part : Part → Want
  line_end : Want
  hex_pairs : Want
  a_record : Want
  a_paper : Want
  shorter : Want

-- the bytes that a line says, or how many words are left from the first that is wrong on, and what was expected for it
pub data Read : Type 0 where
  Said : List ℕ → Read
  Wrong : ℕ → Want → Read

abbrev pub before : List ℕ → Read → Read
before b (Said c) = Said (b ++ c)
before b (Wrong n w) = Wrong n w

-- pairs of digits, in one word or more
unfoldable pub read_rest : List (List ℕ) → Read
read_rest [] = Said []
read_rest (w ∷ ws) = cond (is_hex w) (before (hex_bytes w) (read_rest ws)) (Wrong (length (w ∷ ws)) hex_pairs)

abbrev pub one : Part → List (List ℕ) → (List (List ℕ) → Read) → Read
one p [] next = Wrong 0 (a_part p)
one p (w ∷ ws) next = cond (says p w) (before (bytes_in p w) (next ws)) (Wrong (length (w ∷ ws)) (a_part p))

abbrev pub line_done : List (List ℕ) → Read
line_done [] = Said []
line_done (w ∷ ws) = Wrong (length (w ∷ ws)) line_end

abbrev pub or_zeros : ℕ → List (List ℕ) → Read → Read
or_zeros n [] r = Said (replicate n 0)
or_zeros n (w ∷ ws) r = r

-- the word that says that a clause is there
abbrev pub first_word : Form → List ℕ
first_word done = []
first_word rest = []
first_word (may f) = []
first_word (part (say w) f) = w
first_word (part (count n) f) = []
first_word (part (bytes n) f) = []
first_word (part (named vs) f) = []
first_word (part date f) = []
first_word (part code f) = []
first_word (bits n vs f) = []
first_word (either f g) = []

unfoldable pub read_form : Form → List (List ℕ) → Read
read_form done ws = line_done ws
read_form rest ws = read_rest ws
read_form (may f) ws = or_zeros (width f) ws (read_form f ws)
read_form (part p f) ws = one p ws (read_form f)
read_form (bits n vs f) ws =
    cond (begins (word "bits") ws) (one (bytes n) (tail ws) (read_form f))
    (before (big_endian n (read_flags vs ws).bits) (read_form f (read_flags vs ws).left))
read_form (either f g) ws = cond (begins (first_word f) ws) (read_form f ws) (read_form g ws)

-- ---- forms that read back: a test on the form alone

unfoldable pub no_numbers : List (List ℕ) → Bool
no_numbers [] = true
no_numbers (v ∷ vs) = not (is_number v) && no_numbers vs

unfoldable pub fine_part : Part → Bool
fine_part (say w) = is_word w
fine_part (count n) = leb (256 ^ n) (2 ^ 64)
fine_part (bytes n) = leb 1 n
fine_part (named vs) = are_words vs && distinct vs && no_numbers vs && leb (length vs) 256
fine_part date = true
fine_part code = true

-- its bytes are always as many as its width
unfoldable pub closed : Form → Bool
closed done = true
closed rest = false
closed (may f) = closed f
closed (part p f) = closed f
closed (bits n vs f) = closed f
closed (either f g) = false

-- at least one word, always
unfoldable pub solid : Form → Bool
solid done = false
solid rest = false
solid (may f) = false
solid (part p f) = true
solid (bits n vs f) = false
solid (either f g) = false

-- what follows flags or a clause: the line's end, or a word that is none of theirs
unfoldable pub parted : List (List ℕ) → Form → Bool
parted vs done = true
parted vs (part (say w) f) = not (is_in w vs)
parted vs (part (count n) f) = false
parted vs (part (bytes n) f) = false
parted vs (part (named us) f) = false
parted vs (part date f) = false
parted vs (part code f) = false
parted vs rest = false
parted vs (may f) = false
parted vs (bits n us f) = false
parted vs (either f g) = parted vs f && parted vs g

unfoldable pub fine : Form → Bool
fine done = true
fine rest = true
fine (may f) = solid f && closed f && fine f
fine (part p f) = fine_part p && fine f
fine (bits n vs f) = leb 1 n && leb (2 ^ length vs) (256 ^ n) && are_words vs && distinct (word "bits" ∷ vs) && parted (word "bits" ∷ vs) f && fine f
fine (either f g) = is_word (first_word f) && fine f && parted (first_word f ∷ []) g && fine g
