-- Places of a line, by the words that are left behind them.
use Rattle.std.specs.Prelude.{◌≡◌, ℕ, zero, suc, ◌-◌, ◌≤◌, List, length}
use Rattle.lexing.specs.Places.{words_at, word_end, next_word}

-- behind the next word
abbrev pub behind_word : List ℕ → ℕ → ℕ
behind_word text at = word_end text (next_word text at)

unfoldable pub behind_words : ℕ → List ℕ → ℕ → ℕ
behind_words zero text at = at
behind_words (suc n) text at = behind_words n text (behind_word text at)

-- where so many words of the line are left: at the first of them, or, where none is, behind the last word
unfoldable pub left_at : List ℕ → ℕ → ℕ → ℕ
left_at text at zero = behind_words (length (words_at text at)) text at
left_at text at (suc n) = next_word text (behind_words (length (words_at text at) - suc n) text at)

-- a place of the same line, behind another by words
pub record Onward (text : List ℕ) (from at : ℕ) : Type 0 where
  pub few : length (words_at text at) ≤ length (words_at text from)
  pub left : (n : ℕ) → n ≤ length (words_at text at) → left_at text at n ≡ left_at text from n
