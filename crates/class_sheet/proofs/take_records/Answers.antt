use borrow.Author.Rules.{rules}
use mathlib.Core.Path.{refl, sym, ap, ◌∙◌}
use Prim.Native.Nat.{◌-◌}
use lib.ListN.{length}
use Rattle.rules.specs.Rules.{rules_of}
use Rattle.class_sheet.specs.ClassSheet.{record_tallies}
use Rattle.class_sheet.proofs.Going.{Going, go_on, falls, last-is, over}
use Rattle.class_sheet.proofs.take_records.Goals as goal

pub loop-at-init : goal.loop-at-init
unfolding record_tallies
loop-at-init c = record { fit = refl; counts = refl }

pub returns-in_default : goal.returns-in_default
returns-in_default c =
    let other = c in
    let take = other in
    let test = take in
    let loop = test.loop-at in
    let e = ap (λ t. t.event) (sym take.take-taken.ensures.0) in
    last-is loop.invariant _ test.loop-at-test.true e other.in_default.not-Answered _ c.take_end.ensures

pub loop-at-smaller : goal.loop-at-smaller
loop-at-smaller c =
    let sale = c in
    let told = sale in
    let take = told in
    let test = take in
    let e = ap (λ t. t.event) (sym take.take-taken.ensures.0) ∙ told.in-Answered.is in
    rw take.take-taken.ensures.0 (falls test.loop-at.invariant _ _ test.loop-at-test.true e)

pub loop-at-preserved : goal.loop-at-preserved
loop-at-preserved c =
    let offline = c in
    let sale = offline in
    let told = sale in
    let take = told in
    let test = take in
    let e = ap (λ t. t.event) (sym take.take-taken.ensures.0) ∙ told.in-Answered.is in
    rw take.take-taken.ensures.0
    (go_on test.loop-at.invariant _ take.take-taken.ensures.2 _ _ test.loop-at-test.true e _ offline.is_offline.ensures _ sale.sale_by-sale.ensures _ _
    c.take_answer-fit.ensures)

pub returns : goal.returns
returns c = over c.loop-at.invariant c.loop-at-test.false
