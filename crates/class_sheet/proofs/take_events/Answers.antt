-- A set-up that is not taken ends the paper; else its records follow.
use borrow.Author.Rules.{rules}
use mathlib.Core.Path.{sym, ap, ◌∙◌}
use Rattle.opening.specs.Opening.{begun_of}
use Rattle.tallies.specs.Tallies.{all_fit, all_tallied}
use Rattle.class_sheet.specs.ClassSheet.{end_tallies}
use Rattle.class_sheet.proofs.Steps.{end_fits, not_set_up, whole}
use Rattle.class_sheet.proofs.take_events.Goals as goal

pub returns-in_default : goal.returns-in_default
returns-in_default c =
    let other = c in
    let begin = other in
    let start = begin in
    let a = start.args in
    let begun = begin.begin-begun.ensures.0 in
    let all = not_set_up a.paper.now (rw (← begun) other.in_default.not-SetUp) in
    let ends = ap (λ b. end_tallies b.event) begun ∙ sym all in (
      sym (ap (λ t. all_fit a.sheet.now t) all ∙ end_fits a.sheet.now (begun_of a.paper.now).event),
      c.take_end.ensures ∙ ap (λ t. all_tallied a.sheet.now t) ends,
    )

pub returns : goal.returns
returns c =
    let fresh = c in
    let told = fresh in
    let begin = told in
    let blank = begin in
    let a = blank.args in
    let all = whole a.paper.now blank.blank-words.ensures begin.begin-begun.ensures.1 begin.begin-begun.ensures.0 told.in-SetUp.is in (
      c.take_records.ensures.0 ∙ ap (λ t. all_fit a.sheet.now t) all,
      c.take_records.ensures.1 ∙ ap (λ t. all_tallied a.sheet.now t) all,
    )
