use borrow.Author.Rules.{rules}
use mathlib.Core.Path.{sym, ◌∙◌}
use Rattle.run_rule.proofs.Rulings.{done-is}
use Rattle.runs.specs.Runs.{card_run, room_run}
use Rattle.runs.proofs.run.Goals as goal

pub answer_records-requires : goal.answer_records-requires
answer_records-requires c =
    let told = c in
    let is = done-is _ _ _ _ (sym told.rule-ran.ensures ∙ told.in-Ok.is) in
    (is.0, is.1)

pub returns-in-Err : goal.returns-in-Err
unfolding card_run room_run
returns-in-Err c =
    let told = c.in-Err.is in
    let ruled = sym c.rule-ran.ensures ∙ told in
    (simp (ruled, told), simp (ruled), simp (ruled), simp (ruled), simp (ruled))

pub returns-in-Ok : goal.returns-in-Ok
unfolding card_run room_run
returns-in-Ok c =
    let answered = c in
    let lent = answered in
    let match = lent in
    let told = match.in-Ok.is in
    let ruled = sym match.rule-ran.ensures ∙ told in
    let by = answered.answer_records.ensures in
    (simp (ruled, told, by.0), simp (ruled) by.1, simp (ruled) by.2, simp (ruled) by.3, simp (ruled) by.4)
