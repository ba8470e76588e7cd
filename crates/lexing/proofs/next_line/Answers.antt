-- Below this line, and past those without a word.
use mathlib.Core.Path.{ap, ◌∙◌}
use lib.ListN.{length}
use Rattle.lexing.specs.Places.{line_from, next_line}
use Rattle.lexing.proofs.next_line.Goals as goal

pub returns : goal.returns
unfolding next_line
returns c =
    let text = c.args.text.now in
    c.line_from.ensures ∙ ap (line_from (length text) text) c.below_line.ensures
