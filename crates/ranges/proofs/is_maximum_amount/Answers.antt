use native.Mathlib.Omega.{arith}
use Rattle.ranges.specs.Ranges.{is_maximum_amount}
use Rattle.ranges.proofs.is_maximum_amount.Goals as goal

pub returns : goal.returns
unfolding is_maximum_amount
returns c =
    let on = c in
    simp (c.u64_at.ensures, c.is_currency.ensures, c.u16_at.ensures, on.byte_at.ensures)

pub overflow_add-at : goal.overflow_add-at
overflow_add-at c = omega arith

pub overflow_add-at-2 : goal.overflow_add-at-2
overflow_add-at-2 c = omega arith

pub overflow_add-at-3 : goal.overflow_add-at-3
overflow_add-at-3 c = omega arith
