use borrow.Author.Rules.{rules}
use Rattle.opening.proofs.controls_in.Goals as goal

pub slice_bounds-result-count : goal.slice_bounds-result-count
slice_bounds-result-count c =
    let start = c in
    (rw c.in-Cpace.is at start.requires).0

pub slice_bounds-result-start : goal.slice_bounds-result-start
slice_bounds-result-start c =
    let start = c in
    (rw c.in-Cpace.is at start.requires).0

pub slice_bounds-result-end-in-Cpace : goal.slice_bounds-result-end-in-Cpace
slice_bounds-result-end-in-Cpace c =
    let start = c in
    (rw c.in-Cpace.is at start.requires).1

pub returns-in-Cpa : goal.returns-in-Cpa
returns-in-Cpa c = simp c.in-Cpa.is

pub returns-in-Cpace : goal.returns-in-Cpace
returns-in-Cpace c = simp c.in-Cpace.is
