use borrow.Author.Rules.{rules}
use Rattle.block.proofs.block_fits.Goals as goal

pub returns-in-Accumulator : goal.returns-in-Accumulator
returns-in-Accumulator c =
    let known = c in
    simp (c.are_pairs.ensures, c.byte_at.ensures, known.in-Accumulator.is)

pub returns-in-Counter : goal.returns-in-Counter
returns-in-Counter c = simp (c.byte_at-in-Counter.ensures, c.in-Counter.is)
