use native.Mathlib.Nat.{add-zero}
use Rattle.money.specs.Money.{rounded}
use Rattle.money.proofs.divide.Goals as goal

pub returns-then-up : goal.returns-then-up
unfolding rounded
returns-then-up c = simp c.if-up.true

pub returns : goal.returns
unfolding rounded
returns c = simp (c.if-up.false, add-zero)
