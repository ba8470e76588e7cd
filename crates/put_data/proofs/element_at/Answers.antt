use mathlib.Core.Path.{sym, ◌∙◌}
use borrow.Author.Rules.{rules}
use Rattle.element.specs.Element.{element_meaning}
use Rattle.put_data.proofs.Laws.{rest_all}
use Rattle.put_data.proofs.element_at.Goals as goal

pub returns-in-Some : goal.returns-in-Some
returns-in-Some c =
    let a = c.args in
    let all = rest_all a.list.now a.at in
    let write = sym c.element_meaning.ensures ∙ c.in-Some.is in
    simp (rw all at write, c.element_size.ensures.0, all)

pub returns-in-None : goal.returns-in-None
returns-in-None c =
    let a = c.args in
    let all = rest_all a.list.now a.at in
    simp (rw all at (sym c.element_meaning.ensures ∙ c.in-None.is))
