use borrow.Author.Rules.{rules}
use Rattle.begun.proofs.refuse.Goals as goal

pub returns : goal.returns
returns c = simp (c.fresh_card.ensures, c.no_card-none.ensures)
