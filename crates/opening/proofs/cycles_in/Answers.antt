use borrow.Author.Rules.{rules}
use Rattle.opening.proofs.cycles_in.Goals as goal

pub slice_bounds-result-count : goal.slice_bounds-result-count
slice_bounds-result-count c =
    let start = c in
    (rw c.in-Some.is at start.requires).0

pub slice_bounds-result-start : goal.slice_bounds-result-start
slice_bounds-result-start c =
    let start = c in
    (rw c.in-Some.is at start.requires).0

pub slice_bounds-result-end-in-Some : goal.slice_bounds-result-end-in-Some
slice_bounds-result-end-in-Some c =
    let start = c in
    (rw c.in-Some.is at start.requires).1

pub returns-in-None : goal.returns-in-None
returns-in-None c = simp c.in-None.is

pub returns-in-Some : goal.returns-in-Some
returns-in-Some c = simp c.in-Some.is
