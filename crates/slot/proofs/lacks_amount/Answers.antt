use borrow.Author.Rules.{rules}
use Rattle.slot.specs.Slot.{lacks_amount}
use Rattle.slot.proofs.lacks_amount.Goals as goal

pub returns : goal.returns
unfolding lacks_amount
returns c =
    let check = c in
    simp (c.has_amount.ensures, c.byte_at.ensures, check.asks_amount.ensures, check.check_type.ensures)
