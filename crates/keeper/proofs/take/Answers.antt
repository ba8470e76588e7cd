use borrow.Author.Rules.{rules}
use mathlib.Core.Path.{◌∙◌}
use Rattle.keeper.proofs.Cases.{at_record}
use Rattle.keeper.proofs.take.Goals as goal

pub returns : goal.returns
returns c =
    let kept = c in
    let read = kept in
    let a = read.args in
    let taken = read.take-taken.ensures in
    let there = at_record _ a.shape a.state a.paper.now a.at a.rooms.now taken.0 taken.2 in
    (taken.0, taken.1, taken.2, c.keep.ensures ∙ there)
