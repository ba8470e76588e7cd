-- The invariant: the word stands where it stands among the names that are left, behind those passed.
use mathlib.Core.Path.{◌≡◌}
use Prim.Native.Nat.{◌-◌, ◌≤◌}
use lib.ListN.{length}
use Rattle.lexing.specs.Names.{names_at, place_of}
use Rattle.lexing.proofs.Named.{Stands, found}
use Rattle.lexing.proofs.place_of.Given as goal

abbrev pub invariant-loop-at : goal.invariant-loop-at
invariant-loop-at l = (place_of l.close l.table l.at l.word ≡ found l.n (names_at l.close l.table l.name) l.word) × Stands l.table l.name × (l.n ≤ l.name)

abbrev pub decreases-loop-at : goal.decreases-loop-at
decreases-loop-at l = length l.table - l.name
