use borrow.Author.Rules.{rules}
use Rattle.element.specs.Element.{element_size}
use Rattle.element.proofs.element_size.Goals as goal

pub returns : goal.returns
unfolding element_size
returns c = (simp (c.length_at.ensures.0, c.head_size.ensures.0), search rules)
