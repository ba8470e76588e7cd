use borrow.Author.Rules.{rules}
use mathlib.Core.Path.{refl, ap, ◌∙◌}
use Rattle.sheet.specs.Sheet.{refusal_counted}
use Rattle.tallies.specs.Tallies.{answer_tallies, all_fit, all_tallied}
use Rattle.tallies.proofs.take_answer.Goals as goal

pub returns-in-Refused : goal.returns-in-Refused
unfolding answer_tallies all_fit all_tallied
returns-in-Refused c =
    let number = c in
    let told = number in
    let a = told.args in
    simp told.in-Refused.is (refl, c.count_refusal.ensures ∙ ap (λ n. refusal_counted a.sheet.now n) number.number.ensures)

pub returns-in-Given : goal.returns-in-Given
unfolding answer_tallies
returns-in-Given c =
    let told = c in
    simp told.in-Given.is c.take_cryptogram.ensures

pub returns-in-Started : goal.returns-in-Started
unfolding answer_tallies all_fit all_tallied
returns-in-Started c = simp c.in-Started.is (refl, refl)

pub returns-in-Done : goal.returns-in-Done
unfolding answer_tallies all_fit all_tallied
returns-in-Done c = simp c.in-Done.is (refl, refl)
