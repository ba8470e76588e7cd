-- Each value is moved as its leaf says.
use Rattle.meters.specs.Meters.{applied}
use Rattle.changes.proofs.apply.Goals as goal

pub returns : goal.returns
unfolding applied
returns c =
    simp (
      c.change_cyclic-2.ensures,
      c.change_cyclic.ensures,
      c.change_count-4.ensures,
      c.change_count-3.ensures,
      c.change_count-2.ensures,
      c.change_count.ensures,
      c.change_amount-4.ensures,
      c.change_amount-3.ensures,
      c.change_amount-2.ensures,
      c.change_amount.ensures,
    )
