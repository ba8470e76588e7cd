use mathlib.Core.Path.{sym, ◌∙◌}
use native.Mathlib.Omega.{arith}
use borrow.Author.Tests.{eq-eqb, ne_eqb}
use borrow.Author.Rules.{rules}
use Rattle.element.specs.Element.{length_at}
use Rattle.element.proofs.Laws.{stands}
use Rattle.element.proofs.length_at.Goals as goal

-- 81 stands within the list, and so there is a place behind it
pub overflow_add-at : goal.overflow_add-at
overflow_add-at c =
    let a = c.args in
    omega (arith, stands a.s.now a.at (omega (arith, c.byte_at-lead.ensures, c.if-lead.true)))

pub returns-then-lead : goal.returns-then-lead
unfolding length_at
returns-then-lead c = (simp (eq-eqb _ 0x81 (sym c.byte_at-lead.ensures ∙ c.if-lead.true), c.byte_at.ensures), search rules)

pub returns : goal.returns
unfolding length_at
returns c = (simp (ne_eqb _ 0x81 (λ e. c.if-lead.false (c.byte_at-lead.ensures ∙ e)), c.byte_at-lead.ensures), search rules)
