-- A text as lines of words: blanks part words, a "#" begins a comment, and a line with no word is none.
use Rattle.std.specs.Prelude.{Bool, true, cond, ◌&&◌, not, List, [], ◌∷◌, ◌++◌, ℕ, suc, leb, ltb, eqb, length, replicate}
use Rattle.words.specs.Words.{all, is_empty}

-- the blanks in front of the first word, and the words
pub record Line : Type 0 where
  pub indent : ℕ
  pub words : List (List ℕ)

-- ---- written

-- the words behind a line's first, a space in front of each, and the line feed
abbrev pub behind : List (List ℕ) → List ℕ
behind [] = 10 ∷ []
behind (w ∷ ws) = 32 ∷ w ++ behind ws

abbrev pub spaced : List (List ℕ) → List ℕ
spaced [] = 10 ∷ []
spaced (w ∷ ws) = w ++ behind ws

unfoldable pub line_text : Line → List ℕ
line_text l = replicate l.indent 32 ++ spaced l.words

unfoldable pub text_of : List Line → List ℕ
text_of [] = []
text_of (l ∷ ls) = line_text l ++ text_of ls

-- ---- read, from the last byte to the first

-- the word that the bytes begin with, the words behind it on its line, the blanks in front, and the lines below
pub record Lexed : Type 0 where
  pub word : List ℕ
  pub words : List (List ℕ)
  pub blanks : ℕ
  pub below : List Line

-- a word in front of words, where there is one
abbrev pub flush : List ℕ → List (List ℕ) → List (List ℕ)
flush [] ws = ws
flush (c ∷ w) ws = (c ∷ w) ∷ ws

-- a line above lines, where it has a word
abbrev pub shut : ℕ → List (List ℕ) → List Line → List Line
shut n [] ls = ls
shut n (w ∷ ws) ls = record { indent = n; words = w ∷ ws } ∷ ls

unfoldable pub lines_of : Lexed → List Line
lines_of l = shut l.blanks (flush l.word l.words) l.below

-- one byte more in front: a line feed, a "#", a blank, or a byte of a word
unfoldable pub step : ℕ → Lexed → Lexed
step c l =
    cond (eqb c 10) (record { word = []; words = []; blanks = 0; below = lines_of l })
    (cond (eqb c 35) (record { word = []; words = []; blanks = 0; below = l.below })
    (cond (leb c 32) (record { word = []; words = flush l.word l.words; blanks = suc l.blanks; below = l.below })
    (record { word = c ∷ l.word; words = l.words; blanks = 0; below = l.below })))

unfoldable pub lex : List ℕ → Lexed
lex [] = record { word = []; words = []; blanks = 0; below = [] }
lex (c ∷ s) = step c (lex s)

abbrev pub lines_in : List ℕ → List Line
lines_in s = lines_of (lex s)

-- ---- what a text can say

-- a byte of a word: no blank, no line feed and no "#"
abbrev pub is_plain : ℕ → Bool
is_plain c = ltb 32 c && not (eqb c 35)

unfoldable pub is_word : List ℕ → Bool
is_word w = not (is_empty w) && all is_plain w

unfoldable pub are_words : List (List ℕ) → Bool
are_words [] = true
are_words (w ∷ ws) = is_word w && are_words ws

unfoldable pub are_lines : List Line → Bool
are_lines [] = true
are_lines (l ∷ ls) = not (eqb (length l.words) 0) && are_words l.words && are_lines ls
