-- What is active is tested by one sum.
use Rattle.std.proofs.Common.{arith}
use borrow.Author.Tests.{not-true, not-false}
use Rattle.rules.specs.Rules.{rules_of}
use Rattle.limits.proofs.Exceeds.{exceeds_sum}
use Rattle.accumulator_tests.proofs.test_accumulator.Goals as goal

pub returns-then-not-rule : goal.returns-then-not-rule
returns-then-not-rule c =
    let rule = c.accumulator_rule-rule in
    (simp (← rule.ensures, not-true rule.result.active c.if-not-rule.true), omega arith)

pub returns-in-Amount : goal.returns-in-Amount
unfolding rules_of
returns-in-Amount c =
    let rule = c.accumulator_rule-rule in
    let on = not-false rule.result.active c.if-not-rule.false in (
      simp (← rule.ensures, on, exceeds_sum, ← c.included.ensures, c.in-Amount.is)
          c.limits_exceeded.ensures.0,
      c.limits_exceeded.ensures.1,
    )

pub returns-in-Over : goal.returns-in-Over
unfolding rules_of
returns-in-Over c =
    let rule = c.accumulator_rule-rule in
    let on = not-false rule.result.active c.if-not-rule.false in (
      simp (← rule.ensures, on, exceeds_sum, ← c.included.ensures, c.in-Over.is),
      omega arith,
    )

pub returns-in-NoEntry : goal.returns-in-NoEntry
unfolding rules_of
returns-in-NoEntry c =
    let rule = c.accumulator_rule-rule in
    let on = not-false rule.result.active c.if-not-rule.false in (
      simp (← rule.ensures, on, exceeds_sum, ← c.included.ensures, c.in-NoEntry.is)
          c.limits_exceeded-in-NoEntry.ensures.0,
      c.limits_exceeded-in-NoEntry.ensures.1,
    )
