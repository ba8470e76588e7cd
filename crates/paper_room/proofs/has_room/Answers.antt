use mathlib.Core.Bool.{Bool, true, false}
use mathlib.Core.Path.{◌≡◌, refl, sym}
use Prim.Native.Nat.{ℕ, ◌+◌, ◌-◌, ◌/◌, ◌≤◌, ◌<◌}
use native.Mathlib.Omega.{arith}
use borrow.Author.Tests.{leb-true, leb-false, le-leb, lt-leb}
use lib.Dec.{leb}
use Rattle.paper_room.specs.PaperRoom.{room_for, has_room}
use Rattle.paper_room.proofs.has_room.Goals as goal

none : (room at paper : ℕ) → room < at + room_for paper → false ≡ has_room room at paper
none room at paper h = sym (lt-leb (at + room_for paper) room h)

eighth : (room at paper : ℕ) → at ≤ room → 82 ≤ room - at → leb paper ((room - at - 82) / 8) ≡ has_room room at paper
eighth room at paper h k = by (leb paper ((room - at - 82) / 8)) refl where
  by : (b : Bool) → leb paper ((room - at - 82) / 8) ≡ b → b ≡ has_room room at paper
  by true e = let l = leb-true paper ((room - at - 82) / 8) e in sym (le-leb (at + room_for paper) room (omega arith))
  by false e = let l = leb-false paper ((room - at - 82) / 8) e in none room at paper (omega arith)

pub returns-then-room-at : goal.returns-then-room-at
returns-then-room-at c = let a = c.args in none a.room a.at a.paper (omega arith)

pub returns-then-left-lt-LINE : goal.returns-then-left-lt-LINE
returns-then-left-lt-LINE c = let a = c.args in none a.room a.at a.paper (omega arith)

pub returns : goal.returns
returns c = let a = c.args in eighth a.room a.at a.paper (omega arith) (omega arith)
