use borrow.Author.Rules.{rules}
use Rattle.opening.specs.Opening.{log_judged}
use Rattle.opening.proofs.judge_log.Goals as goal

pub returns-in_default : goal.returns-in_default
unfolding log_judged
returns-in_default c = simp c.in_default.is

pub slice_bounds-judge-count : goal.slice_bounds-judge-count
slice_bounds-judge-count c =
    let told = c in
    let start = told in
    (rw told.in-Some.is at start.requires).0

pub slice_bounds-judge-end : goal.slice_bounds-judge-end
slice_bounds-judge-end c =
    let told = c in
    let start = told in
    (rw told.in-Some.is at start.requires).1

pub returns : goal.returns
unfolding log_judged
returns c =
    let first = c in
    let told = first in
    simp (c.judge.ensures, c.byte_at.ensures, first.first_length-first.ensures, told.in-Some.is)
