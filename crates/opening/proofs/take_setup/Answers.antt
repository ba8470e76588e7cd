use borrow.Author.Rules.{rules}
use mathlib.Core.Path.{sym, ◌∙◌}
use Rattle.shape.proofs.Inside.{inside}
use Rattle.opening.specs.Opening.{setup_begun, setup_words}
use Rattle.opening.proofs.take_setup.Goals as goal

pub take_shaped-requires : goal.take_shaped-requires
take_shaped-requires c =
    let shape = c in
    let read = shape in
    let entry = read in
    (inside entry.args.body.now entry.args.version _ (sym read.read_shape.ensures ∙ shape.in-Ok.is), entry.requires)

pub returns-in-Err : goal.returns-in-Err
unfolding setup_begun setup_words
returns-in-Err c =
    let refusal = c in
    let read = sym refusal.read_shape.ensures ∙ refusal.in-Err.is in
    (simp (read, c.refuse.ensures), simp read)

pub returns-in-Ok : goal.returns-in-Ok
unfolding setup_begun setup_words
returns-in-Ok c =
    let shape = c in
    let read = sym shape.read_shape.ensures ∙ shape.in-Ok.is in
    let begun = c.take_shaped.ensures in
    (simp (read, begun.0), simp (read, begun.1))
