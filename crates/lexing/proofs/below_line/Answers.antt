-- Behind the line feed, or at the end.
use borrow.Author.Tests.{lt-ltb, le-ltb}
use native.Mathlib.Numerals.{add-one}
use Rattle.lexing.specs.Places.{below_line}
use Rattle.lexing.proofs.below_line.Goals as goal

pub returns-then-end-text : goal.returns-then-end-text
unfolding below_line
returns-then-end-text c = rw (← c.line_end-end.ensures, lt-ltb _ _ c.if-end-text.true) (add-one _)

pub returns : goal.returns
unfolding below_line
returns c = rw (← c.line_end-end.ensures, le-ltb _ _ c.if-end-text.false)
