-- The text's end, or the byte.
use borrow.Author.Tests.{le-leb}
use mathlib.Core.Path.{sym, ◌∙◌}
use Rattle.lexing.proofs.Steps.{ends-past, ends-here}
use Rattle.lexing.proofs.ends_line.Goals as goal

pub returns-then-text-at : goal.returns-then-text-at
returns-then-text-at c = le-leb _ _ c.if-text-at.true ∙ sym (ends-past _ _ c.if-text-at.true)

pub returns-else-text-at : goal.returns-else-text-at
returns-else-text-at c = sym (ends-here _ _ c.if-text-at.false)
