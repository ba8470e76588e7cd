-- One digit, or the tens and one more.
use borrow.Author.Rules.{rules}
use native.Mathlib.Omega.{arith}
use Rattle.text.proofs.Stores.{within}
use Rattle.lines.proofs.Tens.{one-digit, one_more_lem}
use Rattle.lines.proofs.put_below_100.Goals as goal

pub returns-then-n-lt10 : goal.returns-then-n-lt10
returns-then-n-lt10 c =
    let put = c in
    within (one-digit _ put.if-n-lt10.true put.put_digit.ensures) (omega arith)

pub returns : goal.returns
returns c =
    let last = c in
    let to_last = last in
    let tens = to_last in
    one_more_lem _ tens.if-n-lt10.false (omega arith) (one-digit _ (omega arith) tens.put_digit-at.ensures) last.put_digit-2.ensures
