-- The invariant: the line with a word is the one behind the lines passed.
use mathlib.Core.Path.{◌≡◌}
use Prim.Native.Nat.{◌-◌}
use lib.ListN.{length}
use Rattle.lexing.specs.Places.{line_from}
use Rattle.lexing.proofs.line_from.Given as goal

abbrev pub invariant-loop-line : goal.invariant-loop-line
invariant-loop-line l = line_from (length l.text) l.text l.at ≡ line_from (length l.text) l.text l.line

abbrev pub decreases-loop-line : goal.decreases-loop-line
decreases-loop-line l = length l.text - l.line
