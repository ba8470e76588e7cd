use native.Mathlib.Omega.{arith}
use Rattle.text.proofs.Stores.{within}
use Rattle.sheet_lines.proofs.put_field.Goals as goal

pub returns-in-Report : goal.returns-in-Report
returns-in-Report c =
    let put = c in
    let told = put in
    let known = told in
    simp told.in-Report.is (within put.put_item.ensures (omega (arith, known.requires.0)))

pub returns-in-Tally : goal.returns-in-Tally
returns-in-Tally c =
    let put = c in
    let told = put in
    let known = told in
    simp told.in-Tally.is (within put.put_item-in-Tally.ensures (omega (arith, known.requires.0)))
