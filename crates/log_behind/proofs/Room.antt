-- The room that a paper's text is asked, and that of its lines. Assumes nothing.
use mathlib.Core.Path.{◌≡◌, refl}
use mathlib.Core.Bool.{Bool, true, false}
use Prim.Native.Nat.{ℕ, ◌+◌, ◌-◌, ◌≤◌}
use native.Mathlib.Omega.{arith}
use borrow.Author.Tests.{leb-true, leb-false, le-leb, lt-leb}
use Rattle.paper_room.specs.PaperRoom.{room_for, has_room}
use Rattle.log_text.specs.LogText.{longest}
use Rattle.log_behind.specs.LogBehind.{room_for_text, has_text_room}

-- room for the text is room for the lines in what is left without the longest log
pub less-longest : (room at bytes : ℕ) → longest ≤ room → has_room (room - longest) at bytes ≡ has_text_room room at bytes
less-longest room at bytes h = by (has_text_room room at bytes) refl where
  by : (b : Bool) → has_text_room room at bytes ≡ b → has_room (room - longest) at bytes ≡ b
  by true e = le-leb (at + room_for bytes) (room - longest) (omega (arith, leb-true (at + room_for_text bytes) room e))
  by false e = lt-leb (at + room_for bytes) (room - longest) (omega (arith, leb-false (at + room_for_text bytes) room e))
