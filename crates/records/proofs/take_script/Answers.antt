use borrow.Author.Rules.{rules}
use mathlib.Core.Path.{ap, ◌∙◌}
use Rattle.script.specs.Script.{rules_after, words_after}
use Rattle.records.proofs.Scripts.{without, with_template}
use Rattle.records.proofs.take_script.Goals as goal

pub returns-then-body-eq0 : goal.returns-then-body-eq0
returns-then-body-eq0 c = let none = without _ _ _ c.if-body-eq0.true in (none.0, ap (words_after _) none.1, ap (rules_after _) none.1)

pub returns : goal.returns
returns c =
    let given = c in
    let is = with_template _ _ _ given.if-body-eq0.false in
    let answered = c.answer_script-outcome.ensures in
    (simp answered.0 is.0, answered.1 ∙ ap (words_after _) is.1, answered.2 ∙ ap (rules_after _) is.1)
