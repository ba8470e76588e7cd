-- Behind the word, and past the gap.
use mathlib.Core.Path.{ap, ◌∙◌}
use Rattle.lexing.specs.Places.{next_word}
use Rattle.lexing.proofs.after_word.Goals as goal

pub returns : goal.returns
returns c = c.next_word.ensures ∙ ap (next_word _) c.word_end.ensures
