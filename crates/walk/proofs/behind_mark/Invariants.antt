-- The invariant: what is behind the mark from the first word on is behind it from this word on.
use mathlib.Core.Path.{◌≡◌}
use mathlib.Core.List.{[], ◌∷◌}
use Prim.Native.Nat.{◌-◌, ◌≤◌}
use lib.ListN.{length}
use Rattle.lexing.specs.Places.{words_at}
use Rattle.forms.specs.Grammar.{past}
use Rattle.walk.proofs.behind_mark.Given as goal

abbrev pub invariant-loop-found : goal.invariant-loop-found
invariant-loop-found l = (past (l.mark ∷ []) (words_at l.grammar l.t) ≡ past (l.mark ∷ []) (words_at l.grammar l.word)) × (l.t ≤ l.word)

abbrev pub decreases-loop-found : goal.decreases-loop-found
decreases-loop-found l = length l.grammar - l.word
