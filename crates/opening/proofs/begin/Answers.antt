use borrow.Author.Rules.{rules}
use mathlib.Core.Path.{sym, ◌∙◌}
use native.Mathlib.Omega.{arith}
use Rattle.opening.specs.Opening.{begun_of, words_begun}
use Rattle.opening.proofs.Parts.{setup-inside, part_length}
use Rattle.opening.proofs.begin.Goals as goal

pub slice_bounds-take_setup-count : goal.slice_bounds-take_setup-count
slice_bounds-take_setup-count c =
    let read = c in
    (setup-inside read.args.paper.now _ _ _ (sym read.open_paper.ensures ∙ c.in-Ok.is)).0

pub slice_bounds-take_setup-start : goal.slice_bounds-take_setup-start
slice_bounds-take_setup-start c =
    let read = c in
    (setup-inside read.args.paper.now _ _ _ (sym read.open_paper.ensures ∙ c.in-Ok.is)).0

pub slice_bounds-take_setup-end : goal.slice_bounds-take_setup-end
slice_bounds-take_setup-end c =
    let read = c in
    (setup-inside read.args.paper.now _ _ _ (sym read.open_paper.ensures ∙ c.in-Ok.is)).1

pub take_setup-requires : goal.take_setup-requires
take_setup-requires c =
    let version = c in
    let read = version in
    let s = read.args.paper.now in
    let lies = setup-inside s _ _ _ (sym read.open_paper.ensures ∙ version.in-Ok.is) in
    let size = part_length s _ _ lies.0 lies.1 in
    omega (arith, lies.0, lies.1)

pub returns-in-Err : goal.returns-in-Err
unfolding begun_of words_begun
returns-in-Err c =
    let refusal = c in
    let opened = sym refusal.open_paper.ensures ∙ refusal.in-Err.is in
    (simp (opened, c.refuse.ensures), simp opened)

pub returns-in-Ok : goal.returns-in-Ok
unfolding begun_of words_begun
returns-in-Ok c =
    let part = c in
    let version = part in
    let opened = sym version.open_paper.ensures ∙ version.in-Ok.is in
    let taken = c.take_setup.ensures in
    (simp (opened, taken.0), simp (opened, taken.1))
