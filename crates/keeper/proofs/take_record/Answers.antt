use borrow.Author.Rules.{rules}
use mathlib.Core.Path.{◌∙◌}
use Rattle.keeper.proofs.Cases.{recorded}
use Rattle.keeper.proofs.take_record.Goals as goal

pub returns : goal.returns
returns c =
    let kept = c in
    let read = kept in
    let given = read in
    let a = given.args in
    let taken = read.take-taken.ensures in
    let there = recorded _ a.shape a.state a.paper.now a.kind a.body.now a.end a.rooms.now taken.0 taken.2 in
    (taken.0, taken.1, taken.2, c.keep.ensures ∙ there)
