-- What a text says from a place on, and the places of its words and lines.
use Rattle.std.specs.Prelude.{Bool, cond, not, ◌&&◌, ◌||◌, List, [], ◌∷◌, ℕ, zero, suc, ◌+◌, leb, ltb, eqb, length, drop, get_or}
use Rattle.std.specs.Borrow.{Bor}
use Rattle.words.specs.Lex.{Line, flush, lex, lines_in}

-- ---- what it says

-- the word that begins at this place; none where no word does
unfoldable pub word_at : List ℕ → ℕ → List ℕ
word_at text at = (lex (drop at text)).word

-- where it lies: a pointer is a block of memory and an offset in it. Past the text's end it is the empty one at the text's begin
unfoldable pub word_place : (text : Bor (List ℕ)) (at : ℕ) → ℕ × ℕ
word_place text at = cond (leb at (length text.now)) (text.ref_ptr.0, text.ref_ptr.1 + at) text.ref_ptr

-- the words from this place to the line's end
unfoldable pub words_at : List ℕ → ℕ → List (List ℕ)
words_at text at = flush (lex (drop at text)).word (lex (drop at text)).words

-- the lines below the one of this place
unfoldable pub below_at : List ℕ → ℕ → List Line
below_at text at = (lex (drop at text)).below

-- the lines from this place on
unfoldable pub lines_at : List ℕ → ℕ → List Line
lines_at text at = lines_in (drop at text)

-- the line ends here: at a line feed, or with the text
unfoldable pub ends_line : List ℕ → ℕ → Bool
ends_line text at = leb (length text) at || eqb (get_or text at 0) 10

-- ---- places, of which those past the text's end lead nowhere else

-- the place behind the word that begins here
unfoldable pub word_end : List ℕ → ℕ → ℕ
word_end text at = at + length (word_at text at)

-- the bytes in front of the line feed
unfoldable pub line_rest : List ℕ → ℕ
line_rest [] = 0
line_rest (c ∷ s) = cond (eqb c 10) 0 (suc (line_rest s))

-- the place of the line feed, or the text's end
unfoldable pub line_end : List ℕ → ℕ → ℕ
line_end text at = at + line_rest (drop at text)

abbrev pub is_blank : ℕ → Bool
is_blank c = leb c 32 && not (eqb c 10)

-- the blanks and the comment in front of a word, or of the line's end
unfoldable pub gap : List ℕ → ℕ
gap [] = 0
gap (c ∷ s) = cond (eqb c 35) (suc (line_rest s)) (cond (is_blank c) (suc (gap s)) 0)

-- the place of the next word of this line, or the line's end
unfoldable pub next_word : List ℕ → ℕ → ℕ
next_word text at = at + gap (drop at text)

-- the same from a word on, behind it
abbrev pub after_word : List ℕ → ℕ → ℕ
after_word text at = next_word text (word_end text at)

-- the place behind the line feed, or the text's end
unfoldable pub below_line : List ℕ → ℕ → ℕ
below_line text at = cond (ltb (line_end text at) (length text)) (suc (line_end text at)) (line_end text at)

-- the place from which on a line has a word, past so many lines without one at most, or the text's end
unfoldable pub line_from : ℕ → List ℕ → ℕ → ℕ
line_from zero text at = at
line_from (suc most) text at = cond (ends_line text (next_word text at)) (line_from most text (below_line text (next_word text at))) at

-- the next line that has a word, or the text's end
unfoldable pub next_line : List ℕ → ℕ → ℕ
next_line text at = line_from (length text) text (below_line text at)
