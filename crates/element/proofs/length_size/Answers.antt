use mathlib.Core.Path.{sym, ◌∙◌}
use borrow.Author.Tests.{eq-eqb, ne_eqb}
use borrow.Author.Rules.{rules}
use Rattle.element.specs.Element.{length_size}
use Rattle.element.proofs.length_size.Goals as goal

pub returns-then-byte_at : goal.returns-then-byte_at
unfolding length_size
returns-then-byte_at c = (simp (eq-eqb _ 0x81 (sym c.byte_at.ensures ∙ c.if-byte_at.true)), search rules)

pub returns-else-byte_at : goal.returns-else-byte_at
unfolding length_size
returns-else-byte_at c = (simp (ne_eqb _ 0x81 (λ e. c.if-byte_at.false (c.byte_at.ensures ∙ e))), search rules)
