use native.Mathlib.Omega.{arith}
use Rattle.text.proofs.Stores.{next, within}
use Rattle.sheet_lines.specs.SheetLines.{papers_line}
use Rattle.sheet_lines.proofs.put_papers.Goals as goal

pub returns : goal.returns
unfolding papers_line
returns c =
    let feed = c in
    let to-feed = feed in
    let head = to-feed in
    within (next head.put_head-at.ensures feed.put_text.ensures) (omega arith)
