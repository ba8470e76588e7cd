use borrow.Author.Rules.{rules}
use mathlib.Core.Path.{sym, ◌∙◌}
use Rattle.decision.specs.Decision.{concluded}
use Rattle.decision.proofs.conclude.Goals as goal

pub returns-then-is_arqc : goal.returns-then-is_arqc
unfolding concluded
returns-then-is_arqc c = simp (c.ask.ensures, sym c.is_arqc.ensures ∙ c.if-is_arqc.true)

pub returns : goal.returns
unfolding concluded
returns c =
    let tests = c in
    simp (c.settle.ensures, c.offline-change.ensures, c.is_tc.ensures, sym tests.is_arqc.ensures ∙ tests.if-is_arqc.false)
