-- The code's tests are the definition's.
use borrow.Author.Rules.{rules}
use Rattle.iad.specs.Iad.{is_cvr}
use Rattle.iad.proofs.is_cvr.Goals as goal

pub returns : goal.returns
unfolding is_cvr
returns c = search rules
