-- What is not active stays; what is active takes its limit or zero.
use borrow.Author.Tests.{not-true, not-false}
use mathlib.Core.Path.{◌≡◌, ap, sym, ◌∙◌}
use mathlib.Core.Bool.{Bool, true, false, cond}
use Prim.Native.Nat.{ℕ}
use Rattle.money.specs.declared.AccumulatorAmount.{AccumulatorAmount}
use Rattle.money.specs.Money.{max}
use Rattle.rules.specs.declared.CyclicRule.{CyclicRule}
use Rattle.rules.specs.Rules.{rules_of, cyclic_rule}
use Rattle.purchase.specs.Meter.{cyclic, rule_of}
use Rattle.meters.specs.Meters.{amount_moved, order}
use Rattle.meters.proofs.Ledger.{inactive_still, order_puts}
use Rattle.changes.proofs.put_cyclic.Goals as goal

abbrev amount : ℕ → AccumulatorAmount
amount n = record { 0 = n }

pub returns-then-not-rule : goal.returns-then-not-rule
returns-then-not-rule c =
    let rule = c.cyclic_rule-rule in
    let a = c.args in
    let rules = rules_of a.words.now in
    let off : (cyclic_rule rules a.place a.i).active ≡ false =
    ap (λ (r : CyclicRule). r.active) (sym rule.ensures) ∙ not-true rule.result.active c.if-not-rule.true in
    ap (amount_moved a.amount)
    (sym (inactive_still rules (cyclic a.i) (rule_of rules a.place (cyclic a.i)) (order a.limit) off))

pub returns-then-limit : goal.returns-then-limit
returns-then-limit c =
    let rule = c.cyclic_rule-rule in
    let a = c.args in
    let rules = rules_of a.words.now in
    let on : (cyclic_rule rules a.place a.i).active ≡ true =
    ap (λ (r : CyclicRule). r.active) (sym rule.ensures) ∙ not-false rule.result.active c.if-not-rule.false in
    let puts = order_puts rules a.place (cyclic a.i) max a.amount.0 a.limit on in
    let upper = (rule_of rules a.place (cyclic a.i)).upper in
    ap (λ (r : CyclicRule). r.limit) rule.ensures
    ∙ ap amount (sym (puts ∙ ap (λ (b : Bool). cond b upper 0) c.if-limit.true))

pub returns-else-limit : goal.returns-else-limit
returns-else-limit c =
    let rule = c.cyclic_rule-rule in
    let a = c.args in
    let rules = rules_of a.words.now in
    let on : (cyclic_rule rules a.place a.i).active ≡ true =
    ap (λ (r : CyclicRule). r.active) (sym rule.ensures) ∙ not-false rule.result.active c.if-not-rule.false in
    let puts = order_puts rules a.place (cyclic a.i) max a.amount.0 a.limit on in
    let upper = (rule_of rules a.place (cyclic a.i)).upper in
    ap amount (sym (puts ∙ ap (λ (b : Bool). cond b upper 0) c.if-limit.false))
