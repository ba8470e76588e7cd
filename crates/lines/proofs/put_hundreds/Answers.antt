-- The hundreds, then two digits more.
use borrow.Author.Rules.{rules}
use native.Mathlib.Omega.{arith}
use Rattle.lines.proofs.Tens.{one_more_lem}
use Rattle.lines.proofs.put_hundreds.Goals as goal

pub returns : goal.returns
returns c =
    let last = c in
    let to_last = last in
    let second = to_last in
    let to-second = second in
    let hundreds = to-second in
    let tens = one_more_lem _ (omega arith) (omega arith) hundreds.put_below_1000-at.ensures second.put_digit-at.ensures in
    one_more_lem _ (omega arith) (omega arith) tens last.put_digit.ensures
