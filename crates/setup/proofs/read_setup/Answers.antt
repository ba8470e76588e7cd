use borrow.Author.Rules.{rules}
use mathlib.Core.Path.{sym, ◌∙◌}
use Rattle.setup.specs.Setup.{read_setup, words_after}
use Rattle.setup.proofs.read_setup.Goals as goal

pub returns-then-not-is_accepted : goal.returns-then-not-is_accepted
unfolding read_setup words_after
returns-then-not-is_accepted c =
    let bad = sym c.is_accepted.ensures ∙ c.if-not-is_accepted.true in
    (simp (bad, c.no_card.ensures), simp bad)

pub returns : goal.returns
unfolding read_setup words_after
returns c =
    let good = sym c.is_accepted.ensures ∙ c.if-not-is_accepted.false in
    (simp (good, c.read_fresh.ensures), simp good c.load.ensures)
