-- A number is its two bytes; past the end it is 0.
use mathlib.Core.Path.{sym, ◌∙◌}
use Rattle.wire.proofs.Numbers.{past, halves, one}
use Rattle.wire.proofs.u16_at.Goals as goal

pub returns-then-at-s : goal.returns-then-at-s
returns-then-at-s c = halves 1 _ _ _ _ (c.byte_at.ensures ∙ sym (one _ _)) (c.byte_at-then-at-s.ensures ∙ sym (one _ _))

pub returns-else-at-s : goal.returns-else-at-s
returns-else-at-s c = sym (past _ _ 2 c.if-at-s.false)
