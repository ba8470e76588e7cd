use borrow.Author.Rules.{rules}
use Rattle.second.proofs.hear_absent.Goals as goal

pub returns-then-required : goal.returns-then-required
returns-then-required c = simp c.if-required.true

pub returns : goal.returns
returns c = simp (c.heard.ensures, c.if-required.false)
