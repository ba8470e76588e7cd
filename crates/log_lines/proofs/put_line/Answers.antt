-- Room, or none.
use Prim.Native.Nat.{◌+◌, ◌<◌}
use native.Mathlib.Omega.{arith}
use lib.ListN.{length}
use Rattle.log_lines.specs.LogLines.{longest}
use Rattle.log_lines.proofs.Stores.{place, stay}
use Rattle.log_lines.proofs.put_line.Goals as goal
use Rattle.log_lines.proofs.put_line.Goals.{then-room-at-via-then-room-at, then-room-at-via-else-room-at+then-room-at-lt-LONGEST}

pub returns-then-room-at : goal.returns-then-room-at
returns-then-room-at c =
    let full : length c.args.room.now < c.args.at + longest =
    elim c.then-room-at.branch [
      | then-room-at-via-then-room-at w ↦ omega arith
      | then-room-at-via-else-room-at+then-room-at-lt-LONGEST w ↦ omega arith
    ] in
    stay c.args.room.now _ c.args.at full

pub returns : goal.returns
returns c = place c.store_line.ensures (omega arith)
