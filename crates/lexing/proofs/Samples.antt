-- Places of a text and names of a table's line, computed. Assumes nothing.
use mathlib.Core.Path.{◌≡◌, refl}
use mathlib.Core.List.{List}
use Prim.Native.Nat.{ℕ}
use Rattle.words.specs.Words.{word, is_in, up_to, place_in}
use Rattle.words.specs.Lex.{lex, step, lines_of}
use Rattle.lexing.specs.Places.{word_at, words_at, ends_line, word_end, line_rest, line_end, gap, next_word, after_word, below_line, line_from, next_line}
use Rattle.lexing.specs.Names.{names_at, is_name, names_on, name_at, names_end, place_of}
use Rattle.std.specs.Prelude.{None, Some}

-- the words of the first line stand at 2 and 7, it ends at 15, and the next that has a word begins at 24
abbrev text : List ℕ
text = word "  key \t0a # one\n# two\n \n three"

in_text : (next_word text 0 ≡ 2) × (word_end text 2 ≡ 5) × (after_word text 2 ≡ 7) × (after_word text 7 ≡ 15) × (next_line text 2 ≡ 24)
unfolding next_word gap line_rest word_end word_at lex step lines_of next_line below_line line_end line_from ends_line
in_text = (refl, refl, refl, refl, refl)

-- the names stand at 7, 11 and 14, and what ends them at 19
abbrev table : List ℕ
table = word "kind [ AAC TC ARQC ] N8"

in_table : (name_at (word "]") 1 table 6 ≡ 11) × (names_end (word "]") table 6 ≡ 19)
    × (place_of (word "]") table 6 (word "ARQC") ≡ Some 2) × (place_of (word "]") table 6 (word "N8") ≡ None)
unfolding name_at names_end names_on is_name place_of names_at is_in up_to place_in words_at next_word gap line_rest word_end word_at lex step lines_of ends_line
in_table = (refl, refl, refl, refl)
