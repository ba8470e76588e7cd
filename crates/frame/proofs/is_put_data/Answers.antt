use borrow.Author.Rules.{rules}
use Rattle.frame.specs.Frame.{is_put_data}
use Rattle.frame.proofs.is_put_data.Goals as goal

pub returns : goal.returns
unfolding is_put_data
returns c =
    simp (c.byte_at-3.ensures, c.byte_at-2.ensures, c.byte_at.ensures, c.u16_at-object.ensures)
