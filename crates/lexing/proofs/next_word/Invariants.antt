-- The invariant: the next word is the one behind the blanks passed.
use mathlib.Core.Path.{◌≡◌}
use Rattle.lexing.specs.Places.{next_word}
use Rattle.lexing.proofs.next_word.Given as goal

abbrev pub invariant-loop-word : goal.invariant-loop-word
invariant-loop-word l = next_word l.text l.at ≡ next_word l.text l.word
