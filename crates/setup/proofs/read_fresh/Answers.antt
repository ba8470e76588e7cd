use borrow.Author.Rules.{rules}
use Rattle.setup.specs.Setup.{fresh_in}
use Rattle.setup.proofs.read_fresh.Goals as goal

pub returns : goal.returns
unfolding fresh_in
returns c =
    let amounts = c in
    let counters = amounts in
    let first = counters in
    let values = first in
    simp (
      c.date_at.ensures,
      c.byte_at-5.ensures,
      c.u16_at.ensures,
      amounts.read_amount-2.ensures,
      amounts.read_amount.ensures,
      counters.byte_at-4.ensures,
      counters.byte_at-3.ensures,
      counters.byte_at-2.ensures,
      first.byte_at.ensures,
      values.read_value-4.ensures,
      values.read_value-3.ensures,
      values.read_value-2.ensures,
      values.read_value.ensures,
    )
