use Rattle.ranges.specs.Ranges.{is_accumulator}
use Rattle.ranges.proofs.is_accumulator.Goals as goal

pub returns : goal.returns
unfolding is_accumulator
returns c = simp (c.u64_at.ensures, c.is_currency.ensures, c.u16_at.ensures)
