-- Words of a text: names, numbers in decimal, bytes in hex; what each says. How numbers and bytes are written: `numeral`, `hex`.
use Rattle.std.specs.Prelude.{Bool, true, false, cond, not, ◌&&◌, ◌||◌, List, [], ◌∷◌, ◌++◌, ℕ, zero, suc, ◌+◌, ◌*◌, ◌-◌, ◌/◌, ◌%◌, leb, eqb}
use Prim.Native.Char.{code}
use Prim.Native.String.{String, [] as ε, ◌∷◌ as ◌⊳◌}

-- a word is its bytes
abbrev pub word : String → List ℕ
word ε = []
word (c ⊳ s) = code c ∷ word s

abbrev pub same : List ℕ → List ℕ → Bool
same [] [] = true
same [] (d ∷ t) = false
same (c ∷ s) [] = false
same (c ∷ s) (d ∷ t) = eqb c d && same s t

unfoldable pub is_in : List ℕ → List (List ℕ) → Bool
is_in w [] = false
is_in w (v ∷ vs) = same w v || is_in w vs

unfoldable pub all : (ℕ → Bool) → List ℕ → Bool
all test [] = true
all test (c ∷ s) = test c && all test s

abbrev pub is_empty : List ℕ → Bool
is_empty [] = true
is_empty (c ∷ s) = false

-- ---- decimal

abbrev pub is_digit : ℕ → Bool
is_digit c = leb 48 c && leb c 57

unfoldable pub is_number : List ℕ → Bool
is_number w = not (is_empty w) && all is_digit w

-- the number that digits write behind another
unfoldable pub value_from : ℕ → List ℕ → ℕ
value_from n [] = n
value_from n (d ∷ s) = value_from (n * 10 + (d - 48)) s

abbrev pub value : List ℕ → ℕ
value w = value_from 0 w

-- ---- hex

-- "0" to "9", "A" to "F", "a" to "f"
abbrev pub is_hex_digit : ℕ → Bool
is_hex_digit c = is_digit c || (leb 65 c && leb c 70) || (leb 97 c && leb c 102)

abbrev pub hex_value : ℕ → ℕ
hex_value c = cond (leb c 57) (c - 48) (cond (leb c 70) (c - 55) (c - 87))

-- pairs of digits
unfoldable pub is_hex : List ℕ → Bool
is_hex [] = true
is_hex (c ∷ []) = false
is_hex (c ∷ d ∷ s) = is_hex_digit c && is_hex_digit d && is_hex s

unfoldable pub hex_bytes : List ℕ → List ℕ
hex_bytes [] = []
hex_bytes (c ∷ []) = []
hex_bytes (c ∷ d ∷ s) = (hex_value c * 16 + hex_value d) ∷ hex_bytes s

-- the bytes that a word says in hex, none where it does not
unfoldable pub hex_said : List ℕ → List ℕ
hex_said w = cond (is_hex w) (hex_bytes w) []

-- ---- names

-- the words in front of the first that is this one
unfoldable pub up_to : List ℕ → List (List ℕ) → List (List ℕ)
up_to end [] = []
up_to end (v ∷ vs) = cond (same v end) [] (v ∷ up_to end vs)

-- the name of a number, or another word for one that has none
unfoldable pub name_of : List (List ℕ) → ℕ → List ℕ → List ℕ
name_of [] n other = other
name_of (v ∷ vs) zero other = v
name_of (v ∷ vs) (suc n) other = name_of vs n other

-- the number that a name stands for; how many names there are for another word
unfoldable pub place_in : List (List ℕ) → List ℕ → ℕ
place_in [] w = 0
place_in (v ∷ vs) w = cond (same w v) 0 (suc (place_in vs w))

unfoldable pub distinct : List (List ℕ) → Bool
distinct [] = true
distinct (v ∷ vs) = not (is_in v vs) && distinct vs

-- ---- flags: the names of the bits that are set, the lowest first

unfoldable pub flags : List (List ℕ) → ℕ → List (List ℕ)
flags [] n = []
flags (v ∷ vs) n = cond (eqb (n % 2) 1) (v ∷ []) [] ++ flags vs (n / 2)

-- the bits that words say, and the words that are left
pub record Flags : Type 0 where
  pub bits : ℕ
  pub left : List (List ℕ)

abbrev pub begins : List ℕ → List (List ℕ) → Bool
begins v [] = false
begins v (w ∷ ws) = same w v

abbrev pub tail : List (List ℕ) → List (List ℕ)
tail [] = []
tail (w ∷ ws) = ws

abbrev pub double : ℕ → Flags → Flags
double b f = record { bits = b + 2 * f.bits; left = f.left }

unfoldable pub read_flags : List (List ℕ) → List (List ℕ) → Flags
read_flags [] ws = record { bits = 0; left = ws }
read_flags (v ∷ vs) ws = cond (begins v ws) (double 1 (read_flags vs (tail ws))) (double 0 (read_flags vs ws))
