use mathlib.Core.Bool.{and-true, and-false}
use Rattle.checks.proofs.finds_cashback.Goals as goal

pub returns-then-purchase : goal.returns-then-purchase
returns-then-purchase c = simp (c.checks_cashback.ensures, c.if-purchase.true, and-true)

pub returns : goal.returns
returns c = simp (c.if-purchase.false, and-false)
