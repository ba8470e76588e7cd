use mathlib.Core.Path.{sym, ◌∙◌}
use Rattle.log_tail.specs.LogTail.{judged}
use Rattle.log_tail.proofs.judge.Goals as goal

pub returns-then-not-is_in_range : goal.returns-then-not-is_in_range
unfolding judged
returns-then-not-is_in_range c = simp (sym c.is_in_range.ensures ∙ c.if-not-is_in_range.true)

pub returns-then-not-is_within : goal.returns-then-not-is_within
unfolding judged
returns-then-not-is_within c =
    let range = c in
    simp (sym range.is_in_range.ensures ∙ range.if-not-is_in_range.false, sym c.is_within.ensures ∙ c.if-not-is_within.true)

pub returns : goal.returns
unfolding judged
returns c =
    let range = c in
    simp (sym range.is_in_range.ensures ∙ range.if-not-is_in_range.false, sym c.is_within.ensures ∙ c.if-not-is_within.false)
