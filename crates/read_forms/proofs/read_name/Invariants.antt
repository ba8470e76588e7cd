-- The invariant: the byte is how many names were passed, and the word is none of them.
use Rattle.std.proofs.Common.{◌≡◌, ◌-◌, length}
use Rattle.read_forms.specs.Reads.{names_at, Begins}
use Rattle.read_forms.proofs.Laws.{Among}
use Rattle.read_forms.proofs.read_name.Given as goal

abbrev pub invariant-loop-room : goal.invariant-loop-room
invariant-loop-room l =
    Begins l.grammar l.name × Among l.word (names_at l.grammar l.names) (names_at l.grammar l.name) l.byte × (l.room ≡ l.initial.room) × (length l.room ≡ length l.initial.room)

abbrev pub decreases-loop-room : goal.decreases-loop-room
decreases-loop-room l = length l.grammar - l.name
