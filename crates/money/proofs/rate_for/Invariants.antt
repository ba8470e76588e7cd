-- The loop's invariant: the entry that is looked for is the one from its place on.
use mathlib.Core.Path.{◌≡◌}
use Prim.Native.Nat.{◌-◌}
use Rattle.money.specs.Money.{rate_for}
use Rattle.money.proofs.rate_for.Given as goal

abbrev pub invariant-loop-rate : goal.invariant-loop-rate
invariant-loop-rate l = rate_for l.rate-items l.from l.to l.rate-index (5 - l.rate-index) ≡ rate_for l.rate-items l.from l.to 0 5
