use borrow.Author.Rules.{rules}
use borrow.Author.Tests.{lt-leb}
use mathlib.Core.Path.{◌∙◌}
use Prim.Native.Nat.{◌+◌}
use native.Mathlib.Omega.{arith}
use Rattle.log_behind.specs.LogBehind.{room_for_text}
use Rattle.log_behind.proofs.Room.{less-longest}
use Rattle.log_behind.proofs.has_room.Goals as goal

pub returns-then-room-lt-LONGEST : goal.returns-then-room-lt-LONGEST
returns-then-room-lt-LONGEST c = let a = c.args in rw (lt-leb (a.at + room_for_text a.paper) a.room (omega (arith, c.if-room-lt-LONGEST.true)))

pub returns : goal.returns
returns c = let a = c.args in c.has_room.ensures ∙ less-longest a.room a.at a.paper c.if-room-lt-LONGEST.false
