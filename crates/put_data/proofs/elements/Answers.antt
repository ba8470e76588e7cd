use native.Mathlib.Omega.{arith}
use borrow.Author.Tests.{lt-leb, le-leb}
use borrow.Author.Rules.{rules}
use Rattle.element.proofs.Laws.{part}
use Rattle.put_data.specs.PutData.{mac_place, elements_of}
use Rattle.put_data.proofs.elements.Goals as goal

pub returns-then-command-end : goal.returns-then-command-end
unfolding elements_of
returns-then-command-end c = simp (lt-leb _ _ (rw c.mac_place-end.ensures.0 at c.if-command-end.true))

pub slice_bounds-result-count : goal.slice_bounds-result-count
unfolding mac_place
slice_bounds-result-count c = omega arith

pub slice_bounds-result-start : goal.slice_bounds-result-start
unfolding mac_place
slice_bounds-result-start c = omega arith

pub returns : goal.returns
unfolding elements_of mac_place
returns c =
    simp (le-leb _ _ (rw c.mac_place-end.ensures.0 at c.if-command-end.false))
    (part _ _ _ _ _ c.list_place-start.ensures.0 c.mac_place-end.ensures.0)
