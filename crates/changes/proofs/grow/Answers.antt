-- The sum that stops at MAX is the amount moved by one addition, and an addition of MAX leaves MAX.
use Prim.Native.Nat.{ℕ}
use mathlib.Core.Path.{ap, sym}
use Rattle.money.specs.declared.AccumulatorAmount.{AccumulatorAmount}
use Rattle.meters.proofs.Ledger.{over_stores_max}
use Rattle.changes.proofs.grow.Goals as goal

abbrev amount : ℕ → AccumulatorAmount
amount n = record { 0 = n }

pub returns-in-Amount : goal.returns-in-Amount
returns-in-Amount c = simp c.in-Amount.is (ap amount c.plus.ensures)

pub returns-in-Over : goal.returns-in-Over
returns-in-Over c = simp c.in-Over.is (ap amount (sym (over_stores_max c.args.amount.0)))

pub returns-in-NoEntry : goal.returns-in-NoEntry
returns-in-NoEntry c = simp c.in-NoEntry.is
