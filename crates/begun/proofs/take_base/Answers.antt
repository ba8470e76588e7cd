use borrow.Author.Rules.{rules}
use Rattle.begun.specs.Begun.{base_begun}
use Rattle.begun.proofs.take_base.Goals as goal

pub returns : goal.returns
unfolding base_begun
returns c =
    let read = c.read_setup-read.ensures in
    (simp (c.event_of.ensures, c.fresh_card.ensures, read.0), read.1)
