use native.Mathlib.Omega.{arith}
use borrow.Author.Tests.{eq-eqb, ne_eqb}
use Rattle.rooms.specs.Rooms.{column_renewed}
use Rattle.renewal.proofs.renew_if_moved.Goals as goal

pub returns-then-before-after : goal.returns-then-before-after
unfolding column_renewed
returns-then-before-after c =
    let put = c in
    simp (put.renew.ensures, ne_eqb _ _ put.if-before-after.true)

pub returns-else-before-after : goal.returns-else-before-after
unfolding column_renewed
returns-else-before-after c = simp (eq-eqb _ _ c.if-before-after.false)

pub renew-requires : goal.renew-requires
renew-requires c = omega arith

pub shape_of-rooms : goal.shape_of-rooms
shape_of-rooms c = omega arith
