use borrow.Author.Rules.{rules}
use Rattle.rules.specs.Rules.{rules_of}
use Rattle.rules.proofs.key_index.Goals as goal

pub returns : goal.returns
unfolding rules_of
returns c = search rules
