use native.Mathlib.Omega.{arith}
use mathlib.Core.Path.{◌∙◌}
use Rattle.text.proofs.Laws.{placed_in_lem}
use Rattle.sheet_lines.proofs.put_text.Goals as goal

pub returns : goal.returns
returns c =
    let put = c in
    let start = put in
    let a = start.args in
    let there = placed_in_lem a.room.now a.text.now a.at start.requires in
    let ends = put.put.ensures.0 ∙ there.1 in
    record { is = put.put.ensures.1 ∙ there.0; behind = ends; short = omega arith }
