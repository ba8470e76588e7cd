-- The invariant: the digits that are looked for are the first from here on.
use mathlib.Core.Path.{◌≡◌}
use Prim.Native.Nat.{◌-◌, ◌≤◌}
use Rattle.rate.specs.Rate.{first, rounds_to, digits_of}
use Rattle.rate.proofs.digits_of.Given as goal

abbrev pub invariant-loop-digits : goal.invariant-loop-digits
invariant-loop-digits l =
    (1 ≤ l.digits) × (l.digits ≤ 10000) × (digits_of l.rate l.times l.over ≡ first (rounds_to l.rate l.times l.over) (10000 - l.digits) l.digits)
