use native.Mathlib.Omega.{arith}
use Rattle.text.proofs.Stores.{next, within}
use borrow.Author.Tests.{le-leb, lt-leb}
use mathlib.Core.Path.{refl}
use Rattle.sheet_lines.specs.SheetLines.{currency_row}
use Rattle.sheet_lines.proofs.put_currency.Goals as goal

pub returns-then-sheet-place : goal.returns-then-sheet-place
unfolding currency_row
returns-then-sheet-place c =
    simp (le-leb _ _ c.if-sheet-place.true) (record { is = refl; behind = omega arith; short = omega arith })

pub returns : goal.returns
unfolding currency_row
returns c =
    let last = c in
    let to_last = last in
    let code = to_last in
    let tested = code in
    simp (lt-leb _ _ tested.if-sheet-place.false) (within (next code.put_code-at.ensures last.put_last.ensures) (omega arith))
