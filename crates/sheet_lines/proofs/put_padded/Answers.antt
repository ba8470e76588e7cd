use native.Mathlib.Omega.{arith}
use Prim.Native.Nat.{◌≤◌}
use Rattle.numerals.proofs.Numerals.{fitted}
use Rattle.sheet_lines.proofs.Padded.{in_column}
use borrow.Author.Rules.{rules}
use Rattle.sheet_lines.proofs.put_padded.Goals as goal

pub overflow_sub-size : goal.overflow_sub-size
overflow_sub-size c =
    let number = c in
    let start = number in
    let a = start.args in
    let digits = (fitted a.room.now a.at a.n (omega (arith, start.requires.0)) number.put_number.ensures.0 number.put_number.ensures.1).0 in
    omega (arith, digits.behind)

pub returns : goal.returns
returns c =
    let again = c in
    let to-again = again in
    let spaces = to-again in
    let gap = spaces in
    let to-gap = gap in
    let number = to-gap in
    let start = number in
    let a = start.args in
    let few : gap.gap.result ≤ 20 = omega (arith, gap.gap.ensures, start.requires.1) in
    let digits = (fitted a.room.now a.at a.n (omega (arith, start.requires.0)) number.put_number.ensures.0 number.put_number.ensures.1).0 in
    let there = (fitted _ _ _ (search rules) again.put_number-2.ensures.0 again.put_number-2.ensures.1).0 in
    in_column a.n start.requires.1 gap.gap.ensures digits spaces.put_spaces-at.ensures there
