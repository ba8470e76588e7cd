use borrow.Author.Rules.{rules}
use mathlib.Core.Path.{sym, ap, ◌∙◌}
use Prim.Native.Nat.{◌-◌}
use native.Mathlib.Omega.{arith}
use lib.ListN.{length}
use Rattle.paper.proofs.Walk.{inside, walk-on}
use Rattle.opening.proofs.Parts.{record_inside}
use Rattle.runs.specs.Runs.{Card, card_of}
use Rattle.run_rule.proofs.Walk.{stopped}
use Rattle.runs.proofs.Going.{Going, begin, is-answered, not_answered, go_on, never, over}
use Rattle.runs.proofs.answer_records.Goals as goal

pub loop-at-init : goal.loop-at-init
loop-at-init c = let pre = c.requires in begin _ _ _ _ _ pre.0 pre.1 (omega arith)

pub shape_of-room-in_default : goal.shape_of-room-in_default
shape_of-room-in_default c = c.loop-at.invariant.sized

pub returns-in_default : goal.returns-in_default
returns-in_default c =
    let read = c in
    let test = read in
    absurd (never _ _ _ test.loop-at.invariant test.loop-at-test.true (stopped _ _ _ c.in_default.not-Record read.record_at.ensures))

pub slice_bounds-take_record-count : goal.slice_bounds-take_record-count
slice_bounds-take_record-count c =
    let told = c in
    (record_inside _ _ _ _ _ (sym told.record_at.ensures ∙ told.in-Record.is)).0

pub slice_bounds-take_record-start : goal.slice_bounds-take_record-start
slice_bounds-take_record-start c =
    let told = c in
    (record_inside _ _ _ _ _ (sym told.record_at.ensures ∙ told.in-Record.is)).0

pub slice_bounds-take_record-end : goal.slice_bounds-take_record-end
slice_bounds-take_record-end c =
    let told = c in
    (record_inside _ _ _ _ _ (sym told.record_at.ensures ∙ told.in-Record.is)).1

pub shape_of-room-in_default-event : goal.shape_of-room-in_default-event
shape_of-room-in_default-event c =
    let taken = c in
    let given = taken in
    let told = given in
    let read = told in
    read.loop-at.invariant.sized

pub returns-in_default-event : goal.returns-in_default-event
returns-in_default-event c =
    let taken = c in
    let given = taken in
    let told = given in
    let read = told in
    let is = sym read.record_at.ensures ∙ told.in-Record.is in
    absurd (not_answered _ c.in_default-event.not-Answered (is-answered _ _ _ read.loop-at.invariant _ _ _ is taken.take_record-taken.ensures.0).event_is)

pub overflow_add-to : goal.overflow_add-to
overflow_add-to c =
    let put = c in
    let event = put in
    let taken = event in
    let given = taken in
    let told = given in
    let read = told in
    let loop = read.loop-at in
    let is = sym read.record_at.ensures ∙ told.in-Record.is in
    omega (arith, loop.invariant.fits, loop.invariant.short, ap length (walk-on _ _ _ _ _ is).0)

pub loop-at-smaller : goal.loop-at-smaller
loop-at-smaller c =
    let put = c in
    let event = put in
    let taken = event in
    let given = taken in
    let told = given in
    let read = told in
    let i = inside _ _ _ _ _ (sym read.record_at.ensures ∙ told.in-Record.is) in
    omega (arith, i.grows, read.loop-at-test.true)

pub loop-at-preserved : goal.loop-at-preserved
loop-at-preserved c =
    let put = c in
    let event = put in
    let taken = event in
    let given = taken in
    let told = given in
    let read = told in
    let is = sym read.record_at.ensures ∙ told.in-Record.is in
    let by = taken.take_record-taken.ensures in
    go_on _ _ _ read.loop-at.invariant _ _ _ is _ _ by.0 by.1 by.2 by.3 event.in-Answered.is put.put.ensures

pub shape_of-room : goal.shape_of-room
shape_of-room c = c.loop-at.invariant.sized

pub returns : goal.returns
returns c =
    let end = over _ _ _ c.loop-at.invariant c.loop-at-test.false in
    let card = end.0 in (
      ap (λ (x : Card). x.state) card,
      ap (λ (x : Card). x.words) card,
      ap (λ (x : Card). x.rooms) card,
      end.1,
      ap (λ (x : Card). x.rules) card,
    )
