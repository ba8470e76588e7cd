-- What is printed of a stack of papers, from its bytes: each paper stands behind its length in 4 bytes; its page is its lines and an empty
-- line; a stack that ends before a paper does is cut short.
use Rattle.std.specs.Prelude.{cond, List, [], ◌∷◌, ◌++◌, ℕ, zero, suc, ◌+◌, eqb, ltb, length}
use Rattle.conversation.specs.Events.{words_left}
use Rattle.paper_text.specs.PaperText.{text_of}
pub use Rattle.blocks.specs.Blocks.{cut_short, size_of, paper_of, behind}

abbrev pub page_of : (words paper : List ℕ) → List ℕ
page_of words paper = text_of words paper ++ 10 ∷ []

-- the pages of n papers; a paper's rules are read into the words that the one before it left
unfoldable pub pages_in : ℕ → (words stack : List ℕ) → List ℕ
pages_in zero words stack = []
pages_in (suc n) words stack =
    cond (eqb (length stack) 0) []
    (cond (ltb (length stack) (4 + size_of stack)) cut_short
    (page_of words (paper_of stack) ++ pages_in n (words_left words (paper_of stack)) (behind stack)))

-- no stack has more papers than bytes
unfoldable pub stack_of : (words stack : List ℕ) → List ℕ
stack_of words stack = pages_in (length stack) words stack
