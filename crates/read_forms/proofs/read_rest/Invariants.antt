-- The invariant: what is put so far, and what is left of the line, say what the line says.
use Rattle.std.proofs.Common.{◌≡◌, ◌-◌, length}
use Rattle.lexing.specs.Places.{next_word}
use Rattle.read_forms.proofs.Laws.{SoFar}
use Rattle.read_forms.proofs.read_rest.Given as goal

abbrev pub invariant-loop-pairs : goal.invariant-loop-pairs
invariant-loop-pairs l =
    (l.word ≡ next_word l.text l.at) × SoFar l.text l.from l.initial.room l.to l.at l.end l.room × (length l.room ≡ length l.initial.room)

abbrev pub decreases-loop-pairs : goal.decreases-loop-pairs
decreases-loop-pairs l = length l.text - l.word
