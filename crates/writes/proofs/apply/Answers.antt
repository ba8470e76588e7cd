use borrow.Author.Rules.{rules}
use mathlib.Core.Path.{refl}
use Rattle.writes.proofs.apply.Goals as goal

pub returns-in-Value : goal.returns-in-Value
returns-in-Value c =
    let is = c.in-Value.is in
    simp (is, c.put_value.ensures) (refl, refl, refl)

pub returns-in-AccumulatorLimits : goal.returns-in-AccumulatorLimits
returns-in-AccumulatorLimits c =
    let is = c.in-AccumulatorLimits.is in
    let set = c.set_accumulator_limits.ensures in
    simp (is) (refl, set.0, set.1)

pub returns-in-CounterLimits : goal.returns-in-CounterLimits
returns-in-CounterLimits c =
    let is = c.in-CounterLimits.is in
    let set = c.set_counter_limits.ensures in
    simp (is) (refl, set.0, set.1)
