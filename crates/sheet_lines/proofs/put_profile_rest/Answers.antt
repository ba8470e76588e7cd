use native.Mathlib.Omega.{arith}
use Rattle.text.proofs.Stores.{next, within}
use mathlib.Core.Path.{refl}
use Rattle.sheet_lines.specs.SheetLines.{profile_rest}
use Rattle.sheet_lines.proofs.put_profile_rest.Goals as goal

pub returns-in-Report : goal.returns-in-Report
unfolding profile_rest
returns-in-Report c =
    let kinds = c in
    let to-kinds = kinds in
    let text = to-kinds in
    let told = text in
    let is = told.in-Report.is in
    rw is (within (next text.put_text-at.ensures (rw is at kinds.put_kinds.ensures)) (omega arith))

pub returns-in-Tally : goal.returns-in-Tally
unfolding profile_rest
returns-in-Tally c =
    simp c.in-Tally.is (record { is = refl; behind = omega arith; short = omega arith })
