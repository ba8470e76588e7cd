use borrow.Author.Rules.{rules}
use mathlib.Core.Path.{sym, ◌∙◌}
use Rattle.upkeep.specs.Upkeep.{rooms_after}
use Rattle.upkeep.proofs.keep.Goals as goal

pub returns-then-is_scripted : goal.returns-then-is_scripted
unfolding rooms_after
returns-then-is_scripted c =
    let asked = c in
    simp (c.fill.ensures, sym asked.is_scripted.ensures ∙ asked.if-is_scripted.true)

pub returns-else-is_scripted : goal.returns-else-is_scripted
unfolding rooms_after
returns-else-is_scripted c =
    let asked = c in
    simp (c.refresh.ensures, sym asked.is_scripted.ensures ∙ asked.if-is_scripted.false)
