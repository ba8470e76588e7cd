-- A form from the words of a row of the grammar:
--
--   N1 .. N8      a number that fits so many bytes, in decimal
--   H1 .. H8      so many bytes in hex, one word
--   D             a date, three bytes
--   C             a response code, two bytes
--   [ a b c ]     a byte by its name (0 is a, 1 is b ..), or in decimal
--   {4 a b c }    flags: the names of the bits that are set in so many bytes, the lowest first
--   ( on D )      a clause that may be left out, with its bytes: its first word says that it is there
--   ?             the line may end here where all that follows is zeros
--   R             all the bytes that are left, in hex
--   another word  the word itself
use Rattle.std.specs.Prelude.{Bool, cond, ◌&&◌, List, [], ◌∷◌, ℕ, zero, suc, ◌-◌, leb, eqb, length}
use Prim.Native.String.{String}
use Rattle.wire.specs.Wire.{byte}
use Rattle.words.specs.Words.{word, same, up_to}
use Rattle.words.specs.Lex.{Line, lines_in}
use Rattle.forms.specs.Form.{Part, say, count, bytes, named, date, code, Form, done, rest, may, part, bits, either}

-- the words behind the first that is this one
unfoldable pub past : List ℕ → List (List ℕ) → List (List ℕ)
past end [] = []
past end (w ∷ ws) = cond (same w end) ws (past end ws)

-- a letter and a digit 1 to 8, as N8
unfoldable pub is_sized : ℕ → List ℕ → Bool
is_sized letter w = eqb (length w) 2 && eqb (byte w 0) letter && leb 49 (byte w 1) && leb (byte w 1) 56

abbrev pub size_in : List ℕ → ℕ
size_in w = byte w 1 - 48

-- 78 is "N", 72 is "H"
unfoldable pub part_in : List ℕ → Part
part_in w =
    cond (is_sized 78 w) (count (size_in w))
    (cond (is_sized 72 w) (bytes (size_in w))
    (cond (same w (word "D")) date
    (cond (same w (word "C")) code
    (say w))))

-- of at most so many words; 123 is "{"
unfoldable pub form_from : ℕ → List (List ℕ) → Form
form_from zero ws = done
form_from (suc n) [] = done
form_from (suc n) (w ∷ ws) =
    cond (same w (word "[")) (part (named (up_to (word "]") ws)) (form_from n (past (word "]") ws)))
    (cond (is_sized 123 w) (bits (size_in w) (up_to (word "}") ws) (form_from n (past (word "}") ws)))
    (cond (same w (word "(")) (either (form_from n ws) (form_from n (past (word ")") ws)))
    (cond (same w (word ")")) (form_from n ws)
    (cond (same w (word "?")) (may (form_from n ws))
    (cond (same w (word "R")) rest
    (part (part_in w) (form_from n ws)))))))

unfoldable pub form_in : List (List ℕ) → Form
form_in ws = form_from (length ws) ws

-- ---- rows as texts

abbrev pub first_words : List Line → List (List ℕ)
first_words [] = []
first_words (l ∷ ls) = l.words

unfoldable pub words_in : String → List (List ℕ)
words_in text = first_words (lines_in (word text))

abbrev pub rows_in : List String → List (List (List ℕ))
rows_in [] = []
rows_in (text ∷ more) = words_in text ∷ rows_in more
