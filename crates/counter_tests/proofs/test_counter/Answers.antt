-- What is active is tested by one sum.
use borrow.Author.Tests.{not-true, not-false}
use native.Mathlib.Omega.{arith}
use Rattle.limits.proofs.Exceeds.{exceeds-once}
use Rattle.counter_tests.proofs.test_counter.Goals as goal

pub returns-then-not-rule : goal.returns-then-not-rule
returns-then-not-rule c =
    let rule = c.counter_rule-rule in
    (simp (← rule.ensures, not-true rule.result.active c.if-not-rule.true), omega arith)

pub returns : goal.returns
returns c =
    let rule = c.counter_rule-rule in (
      simp (
        c.bit-2.ensures.0,
        c.bit.ensures.0,
        c.one_included.ensures.0,
        ← rule.ensures,
        not-false rule.result.active c.if-not-rule.false,
        exceeds-once,
      ),
      omega (arith, c.bit-2.ensures.1, c.bit.ensures.1),
    )

pub one_included-requires : goal.one_included-requires
one_included-requires c = omega arith

pub overflow_cast-sum-2 : goal.overflow_cast-sum-2
overflow_cast-sum-2 c = omega arith

pub overflow_add-sum : goal.overflow_add-sum
overflow_add-sum c = omega arith

pub overflow_cast-rule : goal.overflow_cast-rule
overflow_cast-rule c = omega arith

pub overflow_cast-rule-2 : goal.overflow_cast-rule-2
overflow_cast-rule-2 c = omega arith

pub overflow_mul-result : goal.overflow_mul-result
overflow_mul-result c = omega arith

pub overflow_add-result : goal.overflow_add-result
overflow_add-result c = omega arith
