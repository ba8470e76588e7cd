use borrow.Author.Rules.{rules}
use Rattle.element.specs.Element.{head_size}
use Rattle.element.proofs.head_size.Goals as goal

pub returns : goal.returns
unfolding head_size
returns c = (simp c.length_size.ensures.0, search rules)
