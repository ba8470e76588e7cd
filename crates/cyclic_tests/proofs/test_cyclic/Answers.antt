-- What is active is tested by its value, or with the purchase by one sum.
use borrow.Author.Tests.{not-true, not-false}
use mathlib.Core.Bool.{or-true, or-false}
use Rattle.limits.proofs.Exceeds.{sum_alone}
use Rattle.cyclic_tests.proofs.test_cyclic.Goals as goal

pub returns-then-not-rule : goal.returns-then-not-rule
returns-then-not-rule c =
    let rule = c.cyclic_rule-rule in
    simp (← rule.ensures, not-true rule.result.active c.if-not-rule.true)

pub returns-then-not-rule-2 : goal.returns-then-not-rule-2
returns-then-not-rule-2 c =
    let rule = c.cyclic_rule-rule in
    simp (
      ← rule.ensures,
      not-false rule.result.active c.if-not-rule.false,
      not-true rule.result.include c.if-not-rule-2.true,
      or-false,
    )

pub returns-in-Amount : goal.returns-in-Amount
returns-in-Amount c =
    let rule = c.cyclic_rule-rule in
    simp (
      ← rule.ensures,
      not-false rule.result.active c.if-not-rule.false,
      not-false rule.result.include c.if-not-rule-2.false,
      ← c.cyclic_worth.ensures,
      c.in-Amount.is,
      sum_alone,
    ) c.sum_exceeds.ensures

pub returns-in-Over : goal.returns-in-Over
returns-in-Over c =
    let rule = c.cyclic_rule-rule in
    simp (
      ← rule.ensures,
      not-false rule.result.active c.if-not-rule.false,
      not-false rule.result.include c.if-not-rule-2.false,
      ← c.cyclic_worth.ensures,
      c.in-Over.is,
      or-true,
    )

pub returns-in-NoEntry : goal.returns-in-NoEntry
returns-in-NoEntry c =
    let rule = c.cyclic_rule-rule in
    simp (
      ← rule.ensures,
      not-false rule.result.active c.if-not-rule.false,
      not-false rule.result.include c.if-not-rule-2.false,
      ← c.cyclic_worth.ensures,
      c.in-NoEntry.is,
      or-false,
    )
