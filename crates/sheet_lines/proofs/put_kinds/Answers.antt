use native.Mathlib.Omega.{arith}
use Rattle.text.proofs.Stores.{next, within}
use Rattle.sheet_lines.specs.SheetLines.{kinds_of}
use Rattle.sheet_lines.proofs.put_kinds.Goals as goal

pub returns : goal.returns
unfolding kinds_of
returns c =
    let last = c in
    let to_last = last in
    let second = to_last in
    let to-second = second in
    let first = to-second in
    within (next first.put_field-at.ensures (next second.put_field-at-2.ensures last.put_last.ensures)) (omega arith)
