-- Two digits, or the tens and one more.
use borrow.Author.Rules.{rules}
use native.Mathlib.Omega.{arith}
use Rattle.text.proofs.Stores.{within}
use Rattle.lines.proofs.Tens.{one_more_lem}
use Rattle.lines.proofs.put_below_1000.Goals as goal

pub returns-then-n-lt100 : goal.returns-then-n-lt100
returns-then-n-lt100 c = within c.put_below_100.ensures (omega arith)

pub returns : goal.returns
returns c =
    let last = c in
    let to_last = last in
    let tens = to_last in
    one_more_lem _ (omega arith) (omega arith) tens.put_below_100-at.ensures last.put_digit.ensures
