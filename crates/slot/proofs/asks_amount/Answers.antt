use borrow.Author.Rules.{rules}
use mathlib.Core.Path.{sym, ◌∙◌}
use Rattle.slot.proofs.asks_amount.Goals as goal

pub returns-in-Accumulator : goal.returns-in-Accumulator
returns-in-Accumulator c =
    let told = c in
    simp (sym told.slot_of.ensures ∙ told.in-Accumulator.is, c.adds_transaction.ensures)

pub returns-in-Counter : goal.returns-in-Counter
returns-in-Counter c = simp (sym c.slot_of.ensures ∙ c.in-Counter.is)
