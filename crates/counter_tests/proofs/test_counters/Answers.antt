use native.Mathlib.Omega.{arith}
use Rattle.rules.specs.Rules.{rules_of}
use Rattle.purchase.specs.Meter.{counter}
use Rattle.limits.specs.Limits.{counters_lower, counters_upper}
use Rattle.limits.proofs.Exceeds.{four-packed}
use Rattle.counter_tests.proofs.test_counters.Goals as goal

pub returns : goal.returns
unfolding counters_lower counters_upper
returns c =
    let a = c.args in
    four-packed (rules_of a.words.now) a.place a.values a.purchase counter c.test_counter.ensures.0
    c.test_counter-2.ensures.0 c.test_counter-3.ensures.0 c.test_counter-4.ensures.0

pub bounds-counts-0 : goal.bounds-counts-0
bounds-counts-0 c = omega arith

pub test_counter-requires : goal.test_counter-requires
test_counter-requires c = omega arith

pub bounds-counts-1 : goal.bounds-counts-1
bounds-counts-1 c = omega arith

pub test_counter-requires-2 : goal.test_counter-requires-2
test_counter-requires-2 c = omega arith

pub overflow_mul-result : goal.overflow_mul-result
overflow_mul-result c = omega arith

pub overflow_add-result : goal.overflow_add-result
overflow_add-result c = omega arith

pub bounds-counts-2 : goal.bounds-counts-2
bounds-counts-2 c = omega arith

pub test_counter-requires-3 : goal.test_counter-requires-3
test_counter-requires-3 c = omega arith

pub overflow_mul-result-2 : goal.overflow_mul-result-2
overflow_mul-result-2 c = omega arith

pub overflow_add-result-2 : goal.overflow_add-result-2
overflow_add-result-2 c = omega arith

pub bounds-counts-3 : goal.bounds-counts-3
bounds-counts-3 c = omega arith

pub test_counter-requires-4 : goal.test_counter-requires-4
test_counter-requires-4 c = omega arith

pub overflow_mul-result-3 : goal.overflow_mul-result-3
overflow_mul-result-3 c = omega arith

pub overflow_add-result-3 : goal.overflow_add-result-3
overflow_add-result-3 c = omega arith
