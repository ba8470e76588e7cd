-- The invariant: the name is as many names on as are left.
use mathlib.Core.Path.{◌≡◌}
use Prim.Native.Nat.{◌-◌}
use Rattle.lexing.specs.Names.{names_on, name_at}
use Rattle.lexing.proofs.name_at.Given as goal

abbrev pub invariant-loop : goal.invariant-loop
invariant-loop l = name_at l.close l.n l.table l.at ≡ names_on l.close (l.n - l.counter) l.table l.name
