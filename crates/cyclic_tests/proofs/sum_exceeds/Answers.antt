use borrow.Author.Rules.{rules}
use borrow.Author.Tests.{lt-ltb}
use mathlib.Core.Path.{sym}
use Prim.Native.Nat.{◌+◌}
use native.Mathlib.Omega.{arith}
use Rattle.limits.proofs.Exceeds.{left-to}
use Rattle.cyclic_tests.proofs.sum_exceeds.Goals as goal

pub returns-then-limit-value : goal.returns-then-limit-value
returns-then-limit-value c = let a = c.args in sym (lt-ltb a.limit (a.value + a.more) (omega arith))

pub returns : goal.returns
returns c = search (rules, left-to)
