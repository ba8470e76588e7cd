use borrow.Author.Rules.{rules}
use borrow.Author.Tests.{lt-ltb, le-ltb}
use Rattle.slot.proofs.with_transaction.Goals as goal

pub returns-in-Accumulator : goal.returns-in-Accumulator
returns-in-Accumulator c =
    let place = c in
    simp (place.in-Accumulator.is, ← place.place_of.ensures, ← c.pairs_value-amount.ensures) c.plus.ensures

pub returns-then-value-lt255 : goal.returns-then-value-lt255
returns-then-value-lt255 c = simp (c.in-Counter.is, lt-ltb _ _ c.if-value-lt255.true)

pub returns-else-value-lt255 : goal.returns-else-value-lt255
returns-else-value-lt255 c = simp (c.in-Counter.is, le-ltb _ _ c.if-value-lt255.false)
