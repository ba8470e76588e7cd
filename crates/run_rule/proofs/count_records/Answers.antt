use borrow.Author.Rules.{rules}
use mathlib.Core.Path.{sym, ◌∙◌}
use Prim.Native.Nat.{◌-◌}
use native.Mathlib.Omega.{arith}
use lib.ListN.{length}
use Rattle.paper.proofs.Walk.{inside}
use Rattle.run_rule.proofs.Walk.{stopped, Counting, from_start, one_more_lem, unread, no_record, all-counted}
use Rattle.run_rule.proofs.count_records.Goals as goal

pub loop-at-init : goal.loop-at-init
loop-at-init c = from_start _ _

pub returns-in_default : goal.returns-in_default
returns-in_default c =
    let read = c in
    let test = read in
    no_record _ _ test.loop-at.invariant test.loop-at-test.true (stopped _ _ _ c.in_default.not-Record read.record_at.ensures)

pub overflow_sub-end : goal.overflow_sub-end
overflow_sub-end c =
    let read = c in
    let i = inside _ _ _ _ _ (sym read.record_at.ensures ∙ c.in-Record.is) in
    omega (arith, i.start_is, i.holds)

pub returns-then-not-can_be_read : goal.returns-then-not-can_be_read
returns-then-not-can_be_read c =
    let told = c in
    let read = told in
    let test = read in
    unread _ _ test.loop-at.invariant _ _ _ (sym read.record_at.ensures ∙ told.in-Record.is)
    (sym c.can_be_read.ensures ∙ c.if-not-can_be_read.true)

pub overflow_add-count : goal.overflow_add-count
overflow_add-count c =
    let told = c in
    let read = told in
    let loop = read.loop-at in
    omega (arith, loop.invariant.less, loop.invariant.inside)

pub loop-at-smaller : goal.loop-at-smaller
loop-at-smaller c =
    let told = c in
    let read = told in
    let i = inside _ _ _ _ _ (sym read.record_at.ensures ∙ told.in-Record.is) in
    omega (arith, i.grows, read.loop-at-test.true)

pub loop-at-preserved : goal.loop-at-preserved
loop-at-preserved c =
    let told = c in
    let read = told in
    one_more_lem _ _ read.loop-at.invariant _ _ _ (sym read.record_at.ensures ∙ told.in-Record.is)
    (sym c.can_be_read.ensures ∙ c.if-not-can_be_read.false)

pub returns : goal.returns
returns c = all-counted _ _ c.loop-at.invariant c.loop-at-test.false
