-- The pages of a stack, each as if its paper were the only one: the same words are lent to each.
use Rattle.std.specs.Prelude.{cond, List, [], ◌++◌, ℕ, zero, suc, ◌+◌, eqb, ltb, length}
use Rattle.pages.specs.Stack.{page_of, cut_short, size_of, paper_of, behind}

unfoldable pub apart_in : ℕ → (words stack : List ℕ) → List ℕ
apart_in zero words stack = []
apart_in (suc n) words stack =
    cond (eqb (length stack) 0) []
    (cond (ltb (length stack) (4 + size_of stack)) cut_short (page_of words (paper_of stack) ++ apart_in n words (behind stack)))

unfoldable pub apart_of : (words stack : List ℕ) → List ℕ
apart_of words stack = apart_in (length stack) words stack
