-- The line's end, or a word.
use mathlib.Core.Path.{sym, ◌∙◌}
use Rattle.lexing.specs.Names.{is_name}
use Rattle.lexing.proofs.is_name.Goals as goal

pub returns-then-not-ends_line : goal.returns-then-not-ends_line
unfolding is_name
returns-then-not-ends_line c =
    simp (sym c.ends_line.ensures ∙ c.if-not-ends_line.true, c.same_word.ensures, c.word_at.ensures.0)

pub returns-else-not-ends_line : goal.returns-else-not-ends_line
unfolding is_name
returns-else-not-ends_line c = rw (sym c.ends_line.ensures ∙ c.if-not-ends_line.false, c.if-not-ends_line.false)
