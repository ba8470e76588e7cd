-- The invariant: the word says what the digits that are left say behind the number so far.
use mathlib.Core.Path.{◌≡◌}
use Prim.Native.Nat.{◌^◌, ◌<◌}
use lib.ListN.{drop}
use Rattle.words.specs.Number.{number_in}
use Rattle.words.proofs.Reading.{reads_from}
use Rattle.words.proofs.number_in.Given as goal

abbrev pub invariant-loop-c : goal.invariant-loop-c
invariant-loop-c l = (number_in l.word ≡ reads_from l.n (drop l.c-index l.word)) × (l.n < 2 ^ 64)
