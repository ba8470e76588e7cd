use borrow.Author.Rules.{rules}
use native.Mathlib.Omega.{arith}
use Rattle.text.proofs.Stores.{next, within}
use Rattle.run_text.proofs.put_byte.Goals as goal

pub returns-then-last : goal.returns-then-last
returns-then-last c =
    let feed = c in
    let tested = feed in
    let digits = tested in
    let lower = digits in
    let put = simp (lower.lower_digit.ensures, lower.upper_digit.ensures) at digits.put_text-at.ensures in
    rw tested.if-last.true (next put feed.put_text.ensures)

pub returns : goal.returns
returns c =
    let digits = c in
    let lower = digits in
    let put = simp (lower.lower_digit.ensures, lower.upper_digit.ensures) at digits.put_text-at.ensures in
    rw c.if-last.false (within put (omega arith))
