-- A stack spelled, from papers to bytes, and what is printed of it. It uses nothing of what takes a stack apart.
use Rattle.std.specs.Prelude.{◌≡◌, List, [], ◌∷◌, ◌++◌, ℕ, ◌^◌, ◌<◌, length, take}
use Rattle.lines.specs.Sitting.{sitting_lines}
use Rattle.text.proofs.Each.{Each}
use Rattle.spelling.specs.Spelling.{big}
use Rattle.spelling.specs.Printed as Printed
use Rattle.printout.specs.Text.{logged}

-- a paper behind its length, 4 bytes, big-endian
abbrev pub block_of : (paper : List ℕ) → List ℕ
block_of paper = big 4 (length paper) ++ paper

unfoldable pub stack_with : (papers : List (List ℕ)) → List ℕ
stack_with [] = []
stack_with (paper ∷ more) = block_of paper ++ stack_with more

abbrev pub Fits : (paper : List ℕ) → Type 0
Fits paper = length paper < 256 ^ 4

-- the lines of each paper, as if it were alone with these words, those of its log, and an empty line behind them
unfoldable pub pages_of : (words : List ℕ) (papers : List (List ℕ)) → List (List ℕ)
pages_of words [] = []
pages_of words (paper ∷ more) = sitting_lines words paper ++ logged words paper ++ ((10 ∷ []) ∷ pages_of words more)

-- the last line of a stack that ends before a block does
abbrev pub cut_line : List ℕ
cut_line = Printed.text "cut short\n"

abbrev pub too_long_line : List ℕ
too_long_line = Printed.text "0 9\n"

-- A STACK IS BLOCKS, and perhaps a part of a further one
pub data Stacked (stack : List ℕ) : Type 0 where
  whole : (papers : List (List ℕ)) → Each Fits papers → stack ≡ stack_with papers → Stacked stack
  cut : (papers : List (List ℕ)) → Each Fits papers → (paper : List ℕ) → Fits paper → (n : ℕ) → 0 < n → n < length (block_of paper)
      → stack ≡ stack_with papers ++ take n (block_of paper) → Stacked stack
