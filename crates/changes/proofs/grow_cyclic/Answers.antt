-- What takes no part stays; else the purchase is added where the rule counts it.
use Rattle.changes.proofs.grow_cyclic.Goals as goal

pub returns-then-not-is_in_order : goal.returns-then-not-is_in_order
returns-then-not-is_in_order c =
    let order = c.is_in_order in
    simp (← order.ensures, c.if-not-is_in_order.true)

pub returns-then-rule : goal.returns-then-rule
returns-then-rule c =
    let order = c.is_in_order in
    simp (
      ← order.ensures,
      c.if-not-is_in_order.false,
      ← c.cyclic_rule-rule.ensures,
      c.if-rule.true,
      c.grow.ensures,
      c.cyclic_worth.ensures,
    )

pub returns : goal.returns
returns c =
    let order = c.is_in_order in
    simp (← order.ensures, c.if-not-is_in_order.false, ← c.cyclic_rule-rule.ensures, c.if-rule.false)
