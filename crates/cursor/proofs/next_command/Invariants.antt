use borrow.Author.Rules.{rules}
use native.Mathlib.Omega.{arith}
use mathlib.Core.Path.{◌≡◌, refl, sym, ap, ap₂, ◌∙◌}
use mathlib.Core.List.{List}
use mathlib.Core.Bool.{true, false}
use Prim.Native.Nat.{ℕ, ◌+◌, ◌-◌, ◌<◌}
use lib.ListN.{length}
use Rattle.wire.specs.Wire.{byte}
use Rattle.head.specs.Head.{is_constructed}
use Rattle.cursor.specs.Cursor.{places_from, first_of, next_command}
use Rattle.head.proofs.Heads.{At, right_at, wrong_at}
use Rattle.cursor.proofs.Places.{places_end, places_filler, places_wrong, places_constructed, places_command, places_other}
use Rattle.cursor.proofs.next_command.Given as goal

abbrev pub invariant-loop-at : goal.invariant-loop-at
invariant-loop-at l = places_from l.template l.from ≡ places_from l.template l.at

abbrev pub decreases-loop-at : goal.decreases-loop-at
decreases-loop-at l = length l.template - l.at
