use borrow.Author.Tests.{not-true, not-false}
use Rattle.checks.specs.Checks.{maximum_exceeded}
use Rattle.checks.proofs.exceeds_maximum.Goals as goal

pub returns-then-not-maximum : goal.returns-then-not-maximum
unfolding maximum_exceeded
returns-then-not-maximum c =
    let maximum = c.maximum_amount-maximum in
    simp (← maximum.ensures, not-true _ c.if-not-maximum.true)

pub returns-in-Amount : goal.returns-in-Amount
unfolding maximum_exceeded
returns-in-Amount c =
    let maximum = c.maximum_amount-maximum in
    simp (← maximum.ensures, not-false _ c.if-not-maximum.false, ← c.worth_in.ensures, c.in-Amount.is)

pub returns-in-Over : goal.returns-in-Over
unfolding maximum_exceeded
returns-in-Over c =
    let maximum = c.maximum_amount-maximum in
    simp (← maximum.ensures, not-false _ c.if-not-maximum.false, ← c.worth_in.ensures, c.in-Over.is)

pub returns-in-NoEntry : goal.returns-in-NoEntry
unfolding maximum_exceeded
returns-in-NoEntry c =
    let maximum = c.maximum_amount-maximum in
    simp (← maximum.ensures, not-false _ c.if-not-maximum.false, ← c.worth_in.ensures, c.in-NoEntry.is)
