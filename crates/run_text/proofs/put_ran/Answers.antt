use borrow.Author.Rules.{rules}
use Rattle.text.proofs.Stores.{next}
use Rattle.numerals.proofs.Numerals.{field_fitted}
use Rattle.run_page.specs.RunPage.{ran_line}
use Rattle.run_text.proofs.put_ran.Goals as goal

pub returns : goal.returns
unfolding ran_line
returns c =
    let count = c in
    let answers = count in
    let to-answers = answers in
    let refused = to-answers in
    let number = refused in
    let to_number = number in
    let word = to_number in
    let (first, as_first) = field_fitted _ _ _ _ (search rules) refused.put_field-at.ensures.0 refused.put_field-at.ensures.1 in
    let (second, as-second) = field_fitted _ _ _ _ (search rules) count.put_field.ensures.0 count.put_field.ensures.1 in
    rw (← number.refusal_in.ensures, ← answers.answers_in.ensures)
    (next word.put_text-at.ensures (next first second))
