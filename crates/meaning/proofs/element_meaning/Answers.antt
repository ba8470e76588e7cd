use mathlib.Core.Path.{ap₂, ◌∙◌}
use native.Mathlib.Omega.{arith}
use lib.ListN.{length}
use borrow.Author.Rules.{rules}
use Rattle.element.specs.Element.{meaning_of, element_size, element_meaning}
use Rattle.element.proofs.Laws.{and_fits, part}
use Rattle.meaning.proofs.element_meaning.Goals as goal

pub slice_bounds-meaning_of-count : goal.slice_bounds-meaning_of-count
unfolding element_size
slice_bounds-meaning_of-count c = omega arith

pub slice_bounds-meaning_of-start : goal.slice_bounds-meaning_of-start
unfolding element_size
slice_bounds-meaning_of-start c = omega arith

pub slice_bounds-meaning_of-end : goal.slice_bounds-meaning_of-end
slice_bounds-meaning_of-end c =
    let list = c.args.list.now in
    omega (arith, and_fits c.is_length.result c.element_size-size.result (length list) c.if-is_length-size.true)

pub returns-then-is_length-size : goal.returns-then-is_length-size
unfolding element_meaning element_size
returns-then-is_length-size c =
    let a = c.args in
    let size = c.element_size-size.ensures.0 in
    simp (rw (c.is_length.ensures, c.byte_at.ensures, size) at c.if-is_length-size.true)
    (c.meaning_of.ensures
    ∙ ap₂ (λ t v. meaning_of a.object t v)
    c.u16_at.ensures
    (part a.list.now _ _ _ _ c.head_size-head.ensures.0 size))

pub returns : goal.returns
unfolding element_meaning
returns c =
    simp (rw (c.is_length.ensures, c.byte_at.ensures, c.element_size-size.ensures.0) at c.if-is_length-size.false)
