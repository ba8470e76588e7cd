use native.Mathlib.Omega.{arith}
use Rattle.text.proofs.Stores.{next, within}
use Rattle.sheet_lines.specs.SheetLines.{code_of}
use Rattle.sheet_lines.proofs.put_code.Goals as goal

pub returns : goal.returns
unfolding code_of
returns c =
    let digits = c in
    let fourth = digits in
    let third = fourth in
    let second = third in
    let first = second in
    let to-first = first in
    let word = to-first in
    let put =
    simp (fourth.lower_digit-2.ensures, third.upper_digit-2.ensures, second.lower_digit.ensures, first.upper_digit.ensures)
    at digits.put_text.ensures in
    within (next word.put_text-at.ensures put) (omega arith)
