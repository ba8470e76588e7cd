-- There is room for all of it.
use mathlib.Core.Path.{◌∙◌}
use native.Mathlib.Omega.{arith}
use Rattle.text.proofs.Laws.{placed_in_lem}
use Rattle.imports.proofs.put_text.Goals as goal

pub returns : goal.returns
returns c =
    let a = c.args in
    let put = c.put.ensures in
    let there = placed_in_lem a.room.now a.text.now a.at c.requires in
    record { is = put.1 ∙ there.0; behind = put.0 ∙ there.1; short = omega (arith, put.0, there.1) }
