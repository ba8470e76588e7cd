-- Room, or none.
use Prim.Native.Nat.{◌+◌, ◌<◌}
use native.Mathlib.Omega.{arith}
use lib.ListN.{length}
use Rattle.log_text.specs.LogText.{log_lines, longest}
use Rattle.log_text.proofs.Stores.{place, stay}
use Rattle.log_text.proofs.put_log.Goals as goal
use Rattle.log_text.proofs.put_log.Goals.{then-room-at-via-then-room-at, then-room-at-via-else-room-at+then-room-at-lt-LONGEST}

pub returns-then-room-at : goal.returns-then-room-at
returns-then-room-at c =
    let full : length c.args.room.now < c.args.at + longest =
    elim c.then-room-at.branch [
      | then-room-at-via-then-room-at w ↦ omega arith
      | then-room-at-via-else-room-at+then-room-at-lt-LONGEST w ↦ omega arith
    ] in
    stay c.args.room.now _ c.args.at full

pub returns : goal.returns
unfolding log_lines
returns c =
    let put = c in
    let logging = put in
    let tail = logging in
    let tested = tail in
    rw (← tail.tail_at-tail.ensures.0) (place put.put_lines.ensures (omega (arith, tested.if-room-at-lt-LONGEST.false, tested.if-room-at.false)))
