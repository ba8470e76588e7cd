use native.Mathlib.Omega.{arith}
use mathlib.Core.Path.{sym, ◌∙◌}
use Rattle.entry.proofs.Facts.{moves_down}
use Rattle.selection.specs.Selection.{follow}
use Rattle.selection.proofs.Moves.{visit, none, step, moves-on, moves-past}
use Rattle.selection.proofs.Visits.{few-told}
use Rattle.selection.proofs.+select.Goals as goal

pub returns-then-entries-eq0 : goal.returns-then-entries-eq0
unfolding follow
returns-then-entries-eq0 t c = sym (none _ _ _ _ c.if-entries-eq0.true)

pub returns-then-entries-down : goal.returns-then-entries-down
unfolding follow
returns-then-entries-down t c =
    let v = visit _ _ _ _ _ _ c.if-entries-eq0.false c.first_entry.ensures c.take_action.ensures in
    sym (moves-past v c.in-Move.is c.if-entries-down.true)

pub select-requires : goal.select-requires
unfolding follow
select-requires t c = (omega (arith, moves_down _ _ _ _ (sym c.take_action.ensures ∙ c.in-Move.is)), tt)

pub overflow_add-result : goal.overflow_add-result
unfolding follow
overflow_add-result t c =
    let few = few-told _ _ _ _ _ _ _ c.select.ensures c.in_ok-chosen-in-Move.was in
    omega (arith, few, c.ranges.entries, moves_down _ _ _ _ (sym c.take_action.ensures ∙ c.in-Move.is))

pub returns-in-Profile : goal.returns-in-Profile
unfolding follow
returns-in-Profile t c =
    let v = visit _ _ _ _ _ _ c.if-entries-eq0.false c.first_entry.ensures c.take_action.ensures in
    sym (step v _ c.in-Profile.is)

pub returns-in_ok-chosen-in-Move : goal.returns-in_ok-chosen-in-Move
unfolding follow
returns-in_ok-chosen-in-Move t c =
    let v = visit _ _ _ _ _ _ c.if-entries-eq0.false c.first_entry.ensures c.take_action.ensures in
    moves-on v c.in-Move.is c.move_down.ensures c.select.ensures c.in_ok-chosen-in-Move.was

pub returns-in_err-chosen-in-Move : goal.returns-in_err-chosen-in-Move
unfolding follow
returns-in_err-chosen-in-Move t c =
    let v = visit _ _ _ _ _ _ c.if-entries-eq0.false c.first_entry.ensures c.take_action.ensures in
    c.from_residual.ensures ∙ moves-on v c.in-Move.is c.move_down.ensures c.select.ensures c.in_err-chosen-in-Move.was

pub returns-in-Refused : goal.returns-in-Refused
unfolding follow
returns-in-Refused t c =
    let v = visit _ _ _ _ _ _ c.if-entries-eq0.false c.first_entry.ensures c.take_action.ensures in
    sym (step v _ c.in-Refused.is)
