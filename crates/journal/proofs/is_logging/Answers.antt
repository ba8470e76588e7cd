use mathlib.Core.Path.{refl}
use Rattle.journal.specs.Journal.{is_logging}
use Rattle.journal.proofs.is_logging.Goals as goal

pub returns : goal.returns
unfolding is_logging
returns c = refl
