-- The two answers, by the test.
use mathlib.Core.Path.{sym, ◌∙◌}
use Rattle.iad.specs.Iad.{read_iad}
use Rattle.iad.proofs.read.Goals as goal

pub returns-then-is_iad : goal.returns-then-is_iad
unfolding read_iad
returns-then-is_iad c = simp (sym c.is_iad.ensures ∙ c.if-is_iad.true, c.iad_of.ensures)

pub returns-else-is_iad : goal.returns-else-is_iad
unfolding read_iad
returns-else-is_iad c = simp (sym c.is_iad.ensures ∙ c.if-is_iad.false)
