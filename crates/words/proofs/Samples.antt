-- A text's lines, and what words say, computed. Assumes nothing.
use mathlib.Core.Path.{◌≡◌, refl}
use mathlib.Core.List.{[], ◌∷◌}
use Rattle.words.specs.Words.{word, all, is_number, value_from, is_hex, hex_said, hex_bytes, up_to, name_of, place_in, flags, read_flags}
use Rattle.words.specs.Lex.{text_of, line_text, lines_of, step, lex, lines_in}
use Rattle.words.specs.Number.{number_in}
use Rattle.std.specs.Prelude.{None, Some}

-- blanks in front and between, a comment behind a word and one alone, a line with nothing, and a last line without its line feed
text-read : lines_in (word "  key \t0a#index\n# none\n\n end")
    ≡ record { indent = 2; words = word "key" ∷ word "0a" ∷ [] } ∷ record { indent = 1; words = word "end" ∷ [] } ∷ []
unfolding lex step lines_of
text-read = refl

text-written : text_of (record { indent = 2; words = word "key" ∷ word "0A" ∷ [] } ∷ record { indent = 0; words = word "end" ∷ [] } ∷ [])
    ≡ word "  key 0A\nend\n"
unfolding text_of line_text
text-written = refl

-- zeros in front are read, 2 ^ 64 is not, nor a sign
numbers-read : (number_in (word "0042") ≡ Some 42) × (number_in (word "18446744073709551615") ≡ Some 18446744073709551615)
    × (number_in (word "18446744073709551616") ≡ None) × (number_in (word "+1") ≡ None)
unfolding number_in is_number all value_from
numbers-read = (refl, refl, refl, refl)

-- hex in either case, in pairs
hex-read : (hex_said (word "0aFf") ≡ 10 ∷ 255 ∷ []) × (hex_said (word "0aF") ≡ []) × (hex_said (word "0g") ≡ [])
unfolding hex_said is_hex hex_bytes
hex-read = (refl, refl, refl)

-- the names up to the closing word
names-read : (up_to (word "]") (word "AAC" ∷ word "TC" ∷ word "]" ∷ word "in" ∷ []) ≡ word "AAC" ∷ word "TC" ∷ [])
    × (place_in (word "AAC" ∷ word "TC" ∷ []) (word "TC") ≡ 1) × (name_of (word "AAC" ∷ word "TC" ∷ []) 1 [] ≡ word "TC")
unfolding up_to place_in name_of
names-read = (refl, refl, refl)

-- bits 0 and 2
flags-said : (flags (word "active" ∷ word "allow" ∷ word "include" ∷ []) 5 ≡ word "active" ∷ word "include" ∷ [])
    × (read_flags (word "active" ∷ word "allow" ∷ word "include" ∷ []) (word "active" ∷ word "include" ∷ word "lower" ∷ [])
    ≡ record { bits = 5; left = word "lower" ∷ [] })
unfolding flags read_flags
flags-said = (refl, refl)
