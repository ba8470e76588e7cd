use Rattle.import.proofs.are_currencies.Goals as goal

pub returns : goal.returns
returns c = simp (c.is_currency-2.ensures, c.is_currency.ensures)
