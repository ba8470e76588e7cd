use borrow.Author.Rules.{rules}
use Rattle.log_place.proofs.log_end.Goals as goal

pub returns : goal.returns
returns c = cc
