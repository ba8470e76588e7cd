-- Names: the words of a table's line from a place on, up to a closing word.
use Rattle.std.specs.Prelude.{Bool, cond, not, ◌&&◌, List, ℕ, zero, suc, length, None, Option, Some}
use Rattle.words.specs.Words.{same, is_in, up_to, place_in}
use Rattle.lexing.specs.Places.{word_at, words_at, ends_line, next_word, after_word}

unfoldable pub names_at : (close table : List ℕ) (at : ℕ) → List (List ℕ)
names_at close table at = up_to close (words_at table at)

-- a name stands here: a word that is not the closing one
unfoldable pub is_name : (close table : List ℕ) (at : ℕ) → Bool
is_name close table at = not (ends_line table at) && not (same (word_at table at) close)

-- the place so many names on, or the place of what ends the names
unfoldable pub names_on : (close : List ℕ) (names : ℕ) (table : List ℕ) (at : ℕ) → ℕ
names_on close zero table at = at
names_on close (suc names) table at = cond (is_name close table at) (names_on close names table (after_word table at)) at

-- the place of a number's name
unfoldable pub name_at : (close : List ℕ) (n : ℕ) (table : List ℕ) (at : ℕ) → ℕ
name_at close n table at = names_on close n table (next_word table at)

-- the place of what ends the names: the closing word, or the line's end
unfoldable pub names_end : (close table : List ℕ) (at : ℕ) → ℕ
names_end close table at = name_at close (length table) table at

-- the number that a word stands for
unfoldable pub place_of : (close table : List ℕ) (at : ℕ) (word : List ℕ) → Option ℕ
place_of close table at word = cond (is_in word (names_at close table at)) (Some (place_in (names_at close table at) word)) None
