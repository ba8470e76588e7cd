use borrow.Author.Rules.{rules}
use Rattle.block.proofs.block_value.Goals as goal

pub returns-in-Accumulator : goal.returns-in-Accumulator
returns-in-Accumulator c = simp (c.pairs_value.ensures, c.in-Accumulator.is)

pub returns-in-Counter : goal.returns-in-Counter
returns-in-Counter c = simp (c.byte_at.ensures, c.in-Counter.is)
