-- The number, and the mark.
use borrow.Author.Rules.{rules}
use native.Mathlib.Omega.{arith}
use Rattle.text.proofs.Stores.{next, within}
use Rattle.lines.proofs.put_decimal.Goals as goal

pub returns-then-n-lt100 : goal.returns-then-n-lt100
returns-then-n-lt100 c =
    let mark = c in
    let to-mark = mark in
    within (next to-mark.put_below_100-at.ensures mark.put_byte.ensures) (omega arith)

pub returns : goal.returns
returns c =
    let mark = c in
    let to-mark = mark in
    next to-mark.put_hundreds-at.ensures mark.put_byte-2.ensures
