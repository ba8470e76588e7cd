-- The part from the place to the word's end.
use borrow.Author.Tests.{le-leb, lt-leb}
use mathlib.Core.Path.{sym, ap}
use Prim.Native.Nat.{ℕ}
use native.Mathlib.Nat.{add_comm}
use native.Mathlib.Omega.{arith}
use Rattle.lexing.specs.Places.{word_place}
use Rattle.lexing.proofs.Steps.{word_none}
use Rattle.lexing.proofs.Laws.{word-part, word_in, word-behind}
use Rattle.lexing.proofs.word_at.Goals as goal

pub returns-then-text-at : goal.returns-then-text-at
unfolding word_place
returns-then-text-at c =
    let past = c.if-text-at.true in
    (sym (word_none _ _ (omega arith)), simp (lt-leb _ _ past))

pub slice_bounds-result-count : goal.slice_bounds-result-count
slice_bounds-result-count c =
    let a = c.args in
    omega (arith, c.word_end-end.ensures, word-behind a.text.now a.at)

pub slice_bounds-result-start : goal.slice_bounds-result-start
slice_bounds-result-start c =
    let a = c.args in
    omega (arith, c.word_end-end.ensures, word-behind a.text.now a.at)

pub slice_bounds-result-end-2 : goal.slice_bounds-result-end-2
slice_bounds-result-end-2 c =
    let a = c.args in
    omega (arith, c.word_end-end.ensures, word_in a.text.now a.at c.if-text-at.false)

pub returns : goal.returns
unfolding word_place
returns c =
    let a = c.args in
    let there = c.if-text-at.false in (
      rw c.word_end-end.ensures (word-part a.text.now a.at),
      simp (le-leb _ _ there) (ap (λ (k : ℕ). (a.text.ref_ptr.0, k)) (add_comm a.at a.text.ref_ptr.1)),
    )
