-- What is not active stays; else the change is told by its name.
use borrow.Author.Tests.{not-true, not-false}
use mathlib.Core.Path.{◌≡◌, ap, sym, ◌∙◌}
use mathlib.Core.Bool.{false}
use Rattle.rules.specs.declared.CounterRule.{CounterRule}
use Rattle.rules.specs.Rules.{rules_of, counter_rule}
use Rattle.purchase.specs.Meter.{counter, counter_cap, rule_of}
use Rattle.meters.specs.Meters.{moved}
use Rattle.meters.proofs.Ledger.{inactive_still}
use Rattle.meters.proofs.change_count.Goals as goal

pub returns-then-not-rule : goal.returns-then-not-rule
returns-then-not-rule c =
    let rule = c.counter_rule-rule in
    let a = c.args in
    let rules = rules_of a.words.now in
    let off : (counter_rule rules a.place a.i).active ≡ false =
    ap (λ (r : CounterRule). r.active) (sym rule.ensures) ∙ not-true rule.result.active c.if-not-rule.true in
    ap (moved counter_cap a.value) (sym (inactive_still rules (counter a.i) (rule_of rules a.place (counter a.i)) a.change off))

pub returns-then-is_open-rule : goal.returns-then-is_open-rule
returns-then-is_open-rule c =
    let rule = c.counter_rule-rule in
    simp (
      ← rule.ensures,
      not-false rule.result.active c.if-not-rule.false,
      ← c.is_open.ensures,
      c.if-is_open-rule.true,
      c.in-Approve.is,
      c.next.ensures,
    )

pub returns-then-rule : goal.returns-then-rule
returns-then-rule c =
    let rule = c.counter_rule-rule in
    simp (
      ← rule.ensures,
      not-false rule.result.active c.if-not-rule.false,
      c.if-rule.true,
      c.in-Decline.is,
      c.next-then-rule.ensures,
    )

pub returns-else-is_open-rule : goal.returns-else-is_open-rule
returns-else-is_open-rule c =
    let rule = c.counter_rule-rule in
    simp (
      ← rule.ensures,
      not-false rule.result.active c.if-not-rule.false,
      ← c.is_open.ensures,
      c.if-is_open-rule.false,
      c.in-Approve.is,
    )

pub returns-else-rule : goal.returns-else-rule
returns-else-rule c =
    let rule = c.counter_rule-rule in
    simp (← rule.ensures, not-false rule.result.active c.if-not-rule.false, c.if-rule.false, c.in-Decline.is)

pub returns-in-SetToLimits : goal.returns-in-SetToLimits
returns-in-SetToLimits c =
    let rule = c.counter_rule-rule in
    simp (← rule.ensures, not-false rule.result.active c.if-not-rule.false, c.in-SetToLimits.is)

pub returns-in-Clear : goal.returns-in-Clear
returns-in-Clear c =
    let rule = c.counter_rule-rule in
    simp (← rule.ensures, not-false rule.result.active c.if-not-rule.false, c.in-Clear.is)
