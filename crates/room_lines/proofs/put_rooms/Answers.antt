-- Room, or none.
use native.Mathlib.Omega.{arith}
use Rattle.room_lines.proofs.Placed.{place, stay}
use Rattle.room_lines.proofs.put_rooms.Goals as goal

pub returns-then-room-at : goal.returns-then-room-at
returns-then-room-at c = let a = c.args in stay a.room.now _ a.at (omega arith)

pub returns : goal.returns
returns c = place (omega arith) c.store_rooms.ensures
