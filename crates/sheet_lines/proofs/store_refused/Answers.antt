use native.Mathlib.Omega.{arith}
use Rattle.text.proofs.Stores.{next, within}
use Rattle.sheet_lines.specs.SheetLines.{refused_line}
use Rattle.sheet_lines.proofs.store_refused.Goals as goal

pub returns : goal.returns
unfolding refused_line
returns c =
    let last = c in
    let to_last = last in
    let item = to_last in
    within (next item.put_item-at.ensures last.put_last.ensures) (omega arith)
