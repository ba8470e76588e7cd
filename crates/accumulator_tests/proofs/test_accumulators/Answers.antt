use Rattle.std.proofs.Common.{arith}
use Rattle.rules.specs.Rules.{rules_of}
use Rattle.purchase.specs.Meter.{accumulator}
use Rattle.limits.specs.Limits.{accumulators_lower, accumulators_upper}
use Rattle.limits.proofs.Exceeds.{four-packed}
use Rattle.accumulator_tests.proofs.test_accumulators.Goals as goal

pub returns : goal.returns
unfolding accumulators_lower accumulators_upper
returns c =
    let a = c.args in
    four-packed (rules_of a.words.now) a.place a.values a.purchase accumulator c.test_accumulator.ensures.0
    c.test_accumulator-2.ensures.0 c.test_accumulator-3.ensures.0 c.test_accumulator-4.ensures.0

pub bounds-amounts-0 : goal.bounds-amounts-0
bounds-amounts-0 c = omega arith

pub bounds-amounts-1 : goal.bounds-amounts-1
bounds-amounts-1 c = omega arith

pub overflow_mul-result : goal.overflow_mul-result
overflow_mul-result c = omega arith

pub overflow_add-result : goal.overflow_add-result
overflow_add-result c = omega arith

pub bounds-amounts-2 : goal.bounds-amounts-2
bounds-amounts-2 c = omega arith

pub overflow_mul-result-2 : goal.overflow_mul-result-2
overflow_mul-result-2 c = omega arith

pub overflow_add-result-2 : goal.overflow_add-result-2
overflow_add-result-2 c = omega arith

pub bounds-amounts-3 : goal.bounds-amounts-3
bounds-amounts-3 c = omega arith

pub overflow_mul-result-3 : goal.overflow_mul-result-3
overflow_mul-result-3 c = omega arith

pub overflow_add-result-3 : goal.overflow_add-result-3
overflow_add-result-3 c = omega arith
