-- The loop's invariant: no comparison value before value i is equal.
use mathlib.Core.Path.{◌≡◌}
use Prim.Native.Nat.{◌-◌}
use Rattle.fields.specs.Fields.{blocks}
use Rattle.entry.specs.Entry.{masked, is_any_of}
use Rattle.entry.proofs.matches_any.Given as goal

abbrev pub invariant-loop-i : goal.invariant-loop-i
invariant-loop-i l =
    is_any_of (masked l.entry l.data) l.entry l.i (l.i-end - l.i) ≡ is_any_of (masked l.entry l.data) l.entry 1 (blocks l.entry - 1)
