-- The invariant: the entries passed end here, and none has more than 256 bytes.
use borrow.Author.Rules.{rules}
use mathlib.Core.Path.{◌≡◌, sym, ap, ◌∙◌}
use Prim.Native.Nat.{ℕ, ◌+◌, ◌*◌, ◌-◌, ◌≤◌}
use native.Mathlib.Numerals.{add-one}
use native.Mathlib.Omega.{arith}
use Rattle.shape.specs.Shape.{entries_end}
use Rattle.early_tails.proofs.entries_end.Given as goal

abbrev pub invariant-loop : goal.invariant-loop
invariant-loop l =
    (l.end ≡ entries_end l.body l.at l.counter) × (l.end ≤ l.at + 256 * l.counter) × (l.counter ≤ l.entries)

abbrev pub decreases-loop : goal.decreases-loop
decreases-loop l = l.entries - l.counter
