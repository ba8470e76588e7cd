use native.Mathlib.Omega.{arith}
use Rattle.text.proofs.Stores.{next, within}
use Rattle.sheet_lines.specs.SheetLines.{last_of}
use Rattle.sheet_lines.proofs.put_last.Goals as goal

pub returns : goal.returns
unfolding last_of
returns c =
    let feed = c in
    let to-feed = feed in
    let field = to-feed in
    within (next field.put_field-at.ensures feed.put_text.ensures) (omega arith)
