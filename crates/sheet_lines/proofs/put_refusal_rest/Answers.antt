use native.Mathlib.Omega.{arith}
use Rattle.text.proofs.Stores.{next, within}
use mathlib.Core.Path.{refl}
use Rattle.sheet_lines.specs.SheetLines.{refusal_rest}
use Rattle.sheet_lines.proofs.put_refusal_rest.Goals as goal

pub returns-in-Report : goal.returns-in-Report
unfolding refusal_rest
returns-in-Report c =
    let last = c in
    let to_last = last in
    let text = to_last in
    let told = text in
    let is = told.in-Report.is in
    rw is (within (next text.put_text-at.ensures (rw is at last.put_last.ensures)) (omega arith))

pub returns-in-Tally : goal.returns-in-Tally
unfolding refusal_rest
returns-in-Tally c =
    simp c.in-Tally.is (record { is = refl; behind = omega arith; short = omega arith })
