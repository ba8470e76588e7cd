use native.Mathlib.Omega.{arith}
use mathlib.Core.Path.{ap, ◌∙◌}
use Rattle.rooms.specs.Rooms.{cell_set, column_set}
use Rattle.renewal.proofs.renew.Goals as goal

pub returns : goal.returns
unfolding column_set
returns c =
    let fourth = c in
    let fourth-lent = fourth in
    let third = fourth-lent in
    let third-lent = third in
    let second = third-lent in
    let second-lent = second in
    let first = second-lent in
    fourth.put-4.ensures
    ∙ ap (cell_set _ _ _ _) (third.put-3.ensures ∙ ap (cell_set _ _ _ _) (second.put-2.ensures ∙ ap (cell_set _ _ _ _) first.put.ensures))

pub put-requires : goal.put-requires
put-requires c = omega arith

pub put-requires-2 : goal.put-requires-2
put-requires-2 c = omega arith

pub put-requires-3 : goal.put-requires-3
put-requires-3 c = omega arith

pub put-requires-4 : goal.put-requires-4
put-requires-4 c = omega arith

pub shape_of-rooms : goal.shape_of-rooms
shape_of-rooms c = omega arith
