-- The invariant: the line ends where the rest of it does.
use mathlib.Core.Path.{◌≡◌}
use Rattle.lexing.specs.Places.{line_end}
use Rattle.lexing.proofs.line_end.Given as goal

abbrev pub invariant-loop-end : goal.invariant-loop-end
invariant-loop-end l = line_end l.text l.at ≡ line_end l.text l.end
