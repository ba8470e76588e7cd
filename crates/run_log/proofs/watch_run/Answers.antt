use mathlib.Core.Path.{◌≡◌, sym, ◌∙◌}
use mathlib.Core.List.{List}
use Prim.Native.Nat.{ℕ, ◌-◌, ◌^◌, ◌≤◌, ◌<◌}
use native.Mathlib.Omega.{arith}
use lib.ListN.{length, take, drop, length-drop}
use lib.Seq.{take_all}
use Rattle.paper.proofs.Walk.{inside}
use Rattle.run_log.proofs.Going.{stopped, begin, missing, one_more_lem, stops, over}
use Rattle.run_log.proofs.watch_run.Goals as goal

whole : (s : List ℕ) (from : ℕ) → take (length s - from) (drop from s) ≡ drop from s
whole s from = take_all (length s - from) (drop from s) (omega (arith, length-drop from s))

pub loop-at-init : goal.loop-at-init
loop-at-init c = begin _ _ _ c.args.answers.now _ (omega arith)

pub returns-in_default : goal.returns-in_default
returns-in_default c =
    let read = c in
    stops _ _ _ _ read.loop-at.invariant (stopped _ _ _ c.in_default.not-Record read.record_at.ensures)

pub overflow_sub-answers : goal.overflow_sub-answers
overflow_sub-answers c = let read = c in omega (arith, read.loop-at.invariant.within)

pub returns-then-answers-from-lt-SIZE : goal.returns-then-answers-from-lt-SIZE
returns-then-answers-from-lt-SIZE c =
    let told = c in
    let read = told in
    missing _ _ _ _ read.loop-at.invariant _ _ _ (sym read.record_at.ensures ∙ told.in-Record.is) c.if-answers-from-lt-SIZE.true

pub slice_bounds-heard_by-count : goal.slice_bounds-heard_by-count
slice_bounds-heard_by-count c =
    let told = c in
    let i = inside _ _ _ _ _ (sym told.record_at.ensures ∙ told.in-Record.is) in
    omega (arith, i.start_is, i.holds)

pub slice_bounds-heard_by-start : goal.slice_bounds-heard_by-start
slice_bounds-heard_by-start c =
    let told = c in
    let i = inside _ _ _ _ _ (sym told.record_at.ensures ∙ told.in-Record.is) in
    omega (arith, i.start_is, i.holds)

pub slice_bounds-heard_by-end : goal.slice_bounds-heard_by-end
slice_bounds-heard_by-end c =
    let told = c in
    (inside _ _ _ _ _ (sym told.record_at.ensures ∙ told.in-Record.is)).fits

pub overflow_add-place : goal.overflow_add-place
overflow_add-place c =
    let tested = c in
    let told = tested in
    let read = told in
    let until-a = read in
    let a = until-a.args in
    let i = inside a.records.now _ _ _ _ (sym read.record_at.ensures ∙ told.in-Record.is) in
    let short : length a.records.now < 2 ^ 63 = omega arith in
    omega (arith, i.start_is, i.holds, i.fits, short)

pub slice_bounds-watch_answer-start : goal.slice_bounds-watch_answer-start
slice_bounds-watch_answer-start c =
    let tested = c in
    let told = tested in
    let read = told in
    omega (arith, read.loop-at.invariant.within)

pub overflow_add-from : goal.overflow_add-from
overflow_add-from c =
    let heard = c in
    let tested = heard in
    let told = tested in
    let read = told in
    let until-a = read in
    let a = until-a.args in
    let loop = read.loop-at in
    let some : 36 ≤ length a.answers.now - loop.from = tested.if-answers-from-lt-SIZE.false in
    record { fits = omega (arith, some, loop.invariant.short, loop.invariant.within) }

pub loop-at-smaller : goal.loop-at-smaller
loop-at-smaller c =
    let heard = c in
    let tested = heard in
    let told = tested in
    let read = told in
    let i = inside _ _ _ _ _ (sym read.record_at.ensures ∙ told.in-Record.is) in
    omega (arith, i.grows, read.loop-at-test.true)

pub loop-at-preserved : goal.loop-at-preserved
loop-at-preserved c =
    let heard = c in
    let tested = heard in
    let told = tested in
    let read = told in
    let until-a = read in
    let a = until-a.args in
    let loop = read.loop-at in
    rw (c.watch_answer.ensures, heard.heard_by-said.ensures, whole a.answers.now loop.from)
    (one_more_lem _ _ _ _ loop.invariant _ _ _ (sym read.record_at.ensures ∙ told.in-Record.is) tested.if-answers-from-lt-SIZE.false)

pub returns : goal.returns
returns c = over _ _ _ _ c.loop-at.invariant c.loop-at-test.false
