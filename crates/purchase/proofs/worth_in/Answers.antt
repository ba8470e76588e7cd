use borrow.Author.Rules.{rules}
use borrow.Author.Tests.{eq-eqb}
use Rattle.money.specs.Money.{convert_of}
use Rattle.purchase.proofs.worth_in.Goals as goal

pub returns-then-purchase-currency : goal.returns-then-purchase-currency
unfolding convert_of
returns-then-purchase-currency c = simp (c.stop.ensures, eq-eqb _ _ c.if-purchase-currency.true)

pub returns : goal.returns
returns c = simp (c.convert.ensures, c.rates.ensures)
