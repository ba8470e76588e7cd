use borrow.Author.Rules.{rules}
use Rattle.element.specs.Element.{meaning_of}
use Rattle.element.proofs.Laws.{from_first}
use Rattle.meaning.proofs.meaning_of.Goals as goal

pub overflow_sub-tag : goal.overflow_sub-tag
overflow_sub-tag c =
    let a = c.args in
    from_first a.object 0xBF30 0xDF01 _ _ c.is_one_of.ensures c.if-object-is_one_of.true

pub returns-then-object-is_one_of : goal.returns-then-object-is_one_of
unfolding meaning_of
returns-then-object-is_one_of c = simp (rw c.is_one_of.ensures at c.if-object-is_one_of.true, c.value_written.ensures)

pub overflow_sub-tag-then-object-is_one_of-2 : goal.overflow_sub-tag-then-object-is_one_of-2
overflow_sub-tag-then-object-is_one_of-2 c =
    let a = c.args in
    from_first a.object 0xBF30 0xDF11 _ _ c.is_one_of-2.ensures c.if-object-is_one_of-2.true

pub returns-then-object-is_one_of-2 : goal.returns-then-object-is_one_of-2
unfolding meaning_of
returns-then-object-is_one_of-2 c =
    simp (
      rw c.is_one_of.ensures at c.if-object-is_one_of.false,
      rw c.is_one_of-2.ensures at c.if-object-is_one_of-2.true,
      c.limits_written.ensures,
    )

pub overflow_sub-tag-then-object-is_one_of-3 : goal.overflow_sub-tag-then-object-is_one_of-3
overflow_sub-tag-then-object-is_one_of-3 c =
    let a = c.args in
    from_first a.object 0xBF35 0xDF11 _ _ c.is_one_of-3.ensures c.if-object-is_one_of-3.true

pub returns-then-object-is_one_of-3 : goal.returns-then-object-is_one_of-3
unfolding meaning_of
returns-then-object-is_one_of-3 c =
    simp (
      rw c.is_one_of.ensures at c.if-object-is_one_of.false,
      rw c.is_one_of-2.ensures at c.if-object-is_one_of-2.false,
      rw c.is_one_of-3.ensures at c.if-object-is_one_of-3.true,
      c.counts_written.ensures,
    )

pub returns : goal.returns
unfolding meaning_of
returns c =
    simp (
      rw c.is_one_of.ensures at c.if-object-is_one_of.false,
      rw c.is_one_of-2.ensures at c.if-object-is_one_of-2.false,
      rw c.is_one_of-3.ensures at c.if-object-is_one_of-3.false,
    )
