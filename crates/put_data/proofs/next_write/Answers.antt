use borrow.Author.Rules.{rules}
use Rattle.put_data.specs.PutData.{next_write}
use Rattle.put_data.proofs.next_write.Goals as goal

pub returns : goal.returns
unfolding next_write
returns c = simp (c.next_element.ensures, c.elements.ensures, c.u16_at.ensures)
