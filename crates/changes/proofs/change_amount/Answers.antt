-- What is not active stays; else the change is told by its name.
use borrow.Author.Tests.{not-true, not-false}
use mathlib.Core.Path.{◌≡◌, ap, sym, ◌∙◌}
use mathlib.Core.Bool.{true, false, and-false}
use Rattle.rules.specs.declared.AccumulatorRule.{AccumulatorRule}
use Rattle.rules.specs.Rules.{rules_of, accumulator_rule}
use Rattle.purchase.specs.Meter.{accumulator, rule_of}
use Rattle.meters.specs.Meters.{amount_moved}
use Rattle.meters.proofs.Ledger.{inactive_still}
use Rattle.changes.proofs.change_amount.Goals as goal

pub returns-then-not-rule : goal.returns-then-not-rule
returns-then-not-rule c =
    let rule = c.accumulator_rule-rule in
    let a = c.args in
    let rules = rules_of a.words.now in
    let off : (accumulator_rule rules a.place a.i).active ≡ false =
    ap (λ (r : AccumulatorRule). r.active) (sym rule.ensures) ∙ not-true rule.result.active c.if-not-rule.true in
    ap (amount_moved a.amount)
    (sym (inactive_still rules (accumulator a.i) (rule_of rules a.place (accumulator a.i)) a.change off))

pub returns-then-is_open-rule : goal.returns-then-is_open-rule
returns-then-is_open-rule c =
    let rule = c.accumulator_rule-rule in
    simp (
      ← rule.ensures,
      not-false rule.result.active c.if-not-rule.false,
      ← c.is_open.ensures,
      c.if-is_open-rule.true,
      c.in-Approve.is,
      c.grow.ensures,
      c.worth.ensures,
    )

pub returns-else-is_open-rule : goal.returns-else-is_open-rule
returns-else-is_open-rule c =
    let rule = c.accumulator_rule-rule in
    simp (
      ← rule.ensures,
      not-false rule.result.active c.if-not-rule.false,
      ← c.is_open.ensures,
      c.if-is_open-rule.false,
      c.in-Approve.is,
    )

pub returns-in-Decline : goal.returns-in-Decline
returns-in-Decline c =
    let rule = c.accumulator_rule-rule in
    simp (← rule.ensures, not-false rule.result.active c.if-not-rule.false, c.in-Decline.is, and-false)

pub returns-in-SetToLimits : goal.returns-in-SetToLimits
returns-in-SetToLimits c =
    let rule = c.accumulator_rule-rule in
    let a = c.args in
    let on : (accumulator_rule (rules_of a.words.now) a.place a.i).active ≡ true =
    ap (λ (r : AccumulatorRule). r.active) (sym rule.ensures) ∙ not-false rule.result.active c.if-not-rule.false in
    ap (λ (r : AccumulatorRule). r.upper) rule.ensures ∙ simp (on, c.in-SetToLimits.is)

pub returns-in-Clear : goal.returns-in-Clear
returns-in-Clear c =
    let rule = c.accumulator_rule-rule in
    simp (← rule.ensures, not-false rule.result.active c.if-not-rule.false, c.in-Clear.is)
