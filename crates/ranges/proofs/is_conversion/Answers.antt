use native.Mathlib.Omega.{arith}
use Rattle.ranges.specs.Ranges.{is_conversion}
use Rattle.ranges.proofs.is_conversion.Goals as goal

pub returns : goal.returns
unfolding is_conversion
returns c =
    let digits = c in
    simp (
      c.byte_at.ensures,
      c.is_currency-2.ensures,
      c.is_currency.ensures,
      digits.u16_at-digits.ensures,
      digits.u16_at-to.ensures,
      digits.u16_at-from.ensures,
    )

pub overflow_add-at : goal.overflow_add-at
overflow_add-at c = omega arith

pub overflow_add-at-2 : goal.overflow_add-at-2
overflow_add-at-2 c = omega arith

pub overflow_add-at-3 : goal.overflow_add-at-3
overflow_add-at-3 c = omega arith
