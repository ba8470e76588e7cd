use mathlib.Core.Path.{ap, ◌∙◌}
use Prim.Native.Nat.{◌+◌, ◌≤◌}
use native.Mathlib.Omega.{arith}
use lib.ListN.{length}
use Rattle.text.proofs.Laws.{placed_in_lem}
use Rattle.blocks.proofs.Texts.{text-placed}
use Rattle.std.specs.Prelude.{Some}
use Rattle.blocks.proofs.place_text.Goals as goal

pub returns : goal.returns
returns c =
    let a = c.args in
    let put = c.put.ensures in
    let h : a.at + length a.text.now ≤ length a.room.now = omega arith in
    let there = placed_in_lem a.room.now a.text.now a.at h in
    let placed = text-placed a.room.now a.text.now a.at h in
    (ap Some (put.0 ∙ there.1) ∙ placed.0, put.1 ∙ there.0 ∙ placed.1)
