use borrow.Author.Rules.{rules}
use mathlib.Core.Path.{◌∙◌}
use Rattle.keeper.proofs.Cases.{at_set_up, refused}
use Rattle.keeper.proofs.begin.Goals as goal

pub returns-in-SetUp : goal.returns-in-SetUp
returns-in-SetUp c =
    let values = c in
    let told = values in
    let read = told in
    let a = read.args in
    let begun = read.begin-begun.ensures in
    let there = at_set_up a.words.now a.rooms.now a.paper.now begun.0 begun.1 told.in-SetUp.is in
    (begun.0, begun.1, c.fill.ensures ∙ there)

pub returns-in_default : goal.returns-in_default
returns-in_default c =
    let read = c in
    let a = read.args in
    let begun = read.begin-begun.ensures in
    (begun.0, begun.1, refused a.words.now a.rooms.now a.paper.now begun.0 c.in_default.not-SetUp)
