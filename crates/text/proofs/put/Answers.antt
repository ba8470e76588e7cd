use mathlib.Core.Path.{sym, ◌∙◌}
use Prim.Native.Nat.{◌+◌, ◌<◌}
use native.Mathlib.Omega.{arith}
use lib.ListN.{length}
use Rattle.text.proofs.Laws.{placed_in_lem, not_placed, copied}
use Rattle.text.proofs.put.Goals as goal
use Rattle.text.proofs.put.Goals.{then-room-at-via-then-room-at, then-room-at-via-else-room-at+then-room-at-2}

pub returns-then-room-at : goal.returns-then-room-at
returns-then-room-at c =
    let a = c.args in
    let full : length a.room.now < a.at + length a.text.now =
    elim c.then-room-at.branch [ then-room-at-via-then-room-at w ↦ omega arith | then-room-at-via-else-room-at+then-room-at-2 w ↦ omega arith ] in
    let stays = not_placed a.room.now a.text.now a.at full in
    (sym stays.1, sym stays.0)

pub returns : goal.returns
returns c =
    let a = c.args in
    let there = placed_in_lem a.room.now a.text.now a.at (omega arith) in
    (sym there.1, copied a.room.now c.copy_from_slice.new.self a.text.now a.at _ c.copy_from_slice.ensures.after (omega arith) (omega arith) ∙ sym there.0)
