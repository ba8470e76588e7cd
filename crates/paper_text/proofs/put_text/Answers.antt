-- The two parts are its text.
use lib.ListN.{length}
use mathlib.Core.Path.{sym, ap, subst, ◌∙◌}
use Rattle.paper_text.specs.PaperText.{PartsIn}
use Rattle.paper_text.proofs.Text.{whole, text_of_parts}
use Rattle.paper_text.proofs.put_text.Goals as goal

pub returns-in_err-put_parts : goal.returns-in_err-put_parts
returns-in_err-put_parts c =
    let a = c.args in
    let e = c.put_parts.ensures in
    let is = sym e.0 ∙ c.in_err-put_parts.was in
    (c.from_residual.ensures ∙ sym (text_of_parts a.words.now a.paper.now a.room.now a.at ∙ ap whole is), e.1, e.2, rw c.from_residual.ensures tt)

pub returns : goal.returns
returns c =
    let a = c.args in
    let e = c.put_parts.ensures in
    let is = sym e.0 ∙ c.in_ok-put_parts.was in (
      sym (text_of_parts a.words.now a.paper.now a.room.now a.at ∙ ap whole is),
      e.1,
      e.2,
      subst (PartsIn a.at (length a.paper.now)) c.in_ok-put_parts.was e.3,
    )
