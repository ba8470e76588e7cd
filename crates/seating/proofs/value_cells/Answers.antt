use Rattle.seating.specs.States.{value_cells}
use mathlib.Core.Path.{refl}
use borrow.Author.Rules.{rules}
use native.Mathlib.Omega.{arith}
use Rattle.seating.proofs.value_cells.Goals as goal

pub returns : goal.returns
unfolding value_cells
returns c =
    (refl, record { accumulators = omega arith; counters = omega arith; cyclic = omega arith; bytes = search rules })

pub overflow_cast-result : goal.overflow_cast-result
overflow_cast-result c = search rules

pub overflow_cast-result-2 : goal.overflow_cast-result-2
overflow_cast-result-2 c = search rules

pub overflow_cast-result-3 : goal.overflow_cast-result-3
overflow_cast-result-3 c = search rules

pub overflow_cast-result-4 : goal.overflow_cast-result-4
overflow_cast-result-4 c = search rules
