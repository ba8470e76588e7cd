-- As many names on as there are bytes.
use Rattle.lexing.specs.Names.{names_end}
use Rattle.lexing.proofs.names_end.Goals as goal

pub returns : goal.returns
unfolding names_end
returns c = c.name_at.ensures
