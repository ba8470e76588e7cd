use native.Mathlib.Omega.{arith}
use mathlib.Core.Path.{ap, ◌∙◌}
use Rattle.rooms.specs.Rooms.{column_renewed, renewed}
use Rattle.renewal.proofs.refresh.Goals as goal

pub returns : goal.returns
unfolding renewed
returns c =
    let to-fourth = c in
    let third = to-fourth in
    let to-third = third in
    let second = to-third in
    let to-second = second in
    let first = to-second in
    c.renew_if_moved-4.ensures
    ∙ ap (column_renewed _ _ _ _)
    (third.renew_if_moved-3.ensures
    ∙ ap (column_renewed _ _ _ _) (second.renew_if_moved-2.ensures ∙ ap (column_renewed _ _ _ _) first.renew_if_moved.ensures))

pub bounds-old-0 : goal.bounds-old-0
bounds-old-0 c = omega arith

pub bounds-new-0 : goal.bounds-new-0
bounds-new-0 c = omega arith

pub renew_if_moved-requires : goal.renew_if_moved-requires
renew_if_moved-requires c = omega arith

pub bounds-old-1 : goal.bounds-old-1
bounds-old-1 c = omega arith

pub bounds-new-1 : goal.bounds-new-1
bounds-new-1 c = omega arith

pub renew_if_moved-requires-2 : goal.renew_if_moved-requires-2
renew_if_moved-requires-2 c = omega arith

pub bounds-old-2 : goal.bounds-old-2
bounds-old-2 c = omega arith

pub bounds-new-2 : goal.bounds-new-2
bounds-new-2 c = omega arith

pub renew_if_moved-requires-3 : goal.renew_if_moved-requires-3
renew_if_moved-requires-3 c = omega arith

pub bounds-old-3 : goal.bounds-old-3
bounds-old-3 c = omega arith

pub bounds-new-3 : goal.bounds-new-3
bounds-new-3 c = omega arith

pub renew_if_moved-requires-4 : goal.renew_if_moved-requires-4
renew_if_moved-requires-4 c = omega arith
