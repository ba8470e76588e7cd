-- The invariant: the word ends where the rest of it does.
use mathlib.Core.Path.{◌≡◌}
use Rattle.lexing.specs.Places.{word_end}
use Rattle.lexing.proofs.word_end.Given as goal

abbrev pub invariant-loop-end : goal.invariant-loop-end
invariant-loop-end l = word_end l.text l.at ≡ word_end l.text l.end
