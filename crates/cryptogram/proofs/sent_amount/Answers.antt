use borrow.Author.Rules.{rules}
use native.Mathlib.Omega.{arith}
use Rattle.cryptogram.proofs.Sent.{one_of_four}
use Rattle.cryptogram.proofs.sent_amount.Goals as goal

pub returns-then-number : goal.returns-then-number
returns-then-number c = simp c.if-number.true

pub overflow_sub-result : goal.overflow_sub-result
overflow_sub-result c = omega (arith, (one_of_four c.args.number c.if-number.false).0)

pub bounds-values-number : goal.bounds-values-number
bounds-values-number c = let named = one_of_four c.args.number c.if-number.false in omega (arith, named.0, named.1)

pub returns : goal.returns
returns c = simp c.if-number.false
