-- The end of the next word.
use Rattle.std.proofs.Common.{ap, ◌∙◌}
use Rattle.lexing.specs.Places.{word_end}
use Rattle.read_forms.proofs.behind_word.Goals as goal

pub returns : goal.returns
returns c = c.word_end.ensures ∙ ap (word_end c.args.text.now) c.next_word.ensures
