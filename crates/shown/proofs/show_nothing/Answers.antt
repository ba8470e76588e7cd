use Rattle.std.proofs.Common.{rules}
use Rattle.shown.specs.Shown.{unshown}
use Rattle.shown.proofs.show_nothing.Goals as goal

pub returns : goal.returns
unfolding unshown
returns c = simp (c.fresh_card.ensures, c.no_card.ensures)
