use native.Mathlib.Omega.{arith}
use mathlib.Core.Path.{ap, ◌∙◌}
use Rattle.rooms.specs.Rooms.{column_set, filled}
use Rattle.renewal.proofs.fill.Goals as goal

pub returns : goal.returns
unfolding filled
returns c =
    let third = c in
    let second = third in
    let first = second in
    c.renew-4.ensures
    ∙ ap (column_set _ _ _) (third.renew-3.ensures ∙ ap (column_set _ _ _) (second.renew-2.ensures ∙ ap (column_set _ _ _) first.renew.ensures))

pub bounds-amounts-0 : goal.bounds-amounts-0
bounds-amounts-0 c = omega arith

pub renew-requires : goal.renew-requires
renew-requires c = omega arith

pub bounds-amounts-1 : goal.bounds-amounts-1
bounds-amounts-1 c = omega arith

pub renew-requires-2 : goal.renew-requires-2
renew-requires-2 c = omega arith

pub bounds-amounts-2 : goal.bounds-amounts-2
bounds-amounts-2 c = omega arith

pub renew-requires-3 : goal.renew-requires-3
renew-requires-3 c = omega arith

pub bounds-amounts-3 : goal.bounds-amounts-3
bounds-amounts-3 c = omega arith

pub renew-requires-4 : goal.renew-requires-4
renew-requires-4 c = omega arith
