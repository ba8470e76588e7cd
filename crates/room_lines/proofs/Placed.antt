-- The lines in their room, where the longest fit and where they do not. Assumes nothing.
use mathlib.Core.Path.{◌≡◌}
use mathlib.Core.List.{List}
use Prim.Native.Nat.{ℕ, ◌+◌, ◌≤◌, ◌<◌}
use native.Mathlib.Omega.{arith}
use borrow.Author.Tests.{le-leb, lt-leb}
use lib.ListN.{length}
use Rattle.text.specs.Stored.{Stored}
use Rattle.room_lines.specs.RoomLines.{longest, placed, place_behind}

abbrev Put : (room text : List ℕ) (at end : ℕ) (after : List ℕ) → Type 0
Put room text at end after = (end ≡ place_behind (length room) at text) × (after ≡ placed room at text) × (end ≤ at + longest)

pub place : {room after text : List ℕ} {at end : ℕ} → at + longest ≤ length room → Stored room at text longest end after
    → Put room text at end after
unfolding placed place_behind
place {room} {at = at} fits p = let room_for = le-leb (at + longest) (length room) fits in (rw room_for p.behind, rw room_for p.is, p.short)

pub stay : (room text : List ℕ) (at : ℕ) → length room < at + longest → Put room text at at room
unfolding placed place_behind
stay room text at full = let none = lt-leb (at + longest) (length room) full in (rw none, rw none, omega arith)

-- what is known where they fit
pub stored : {room after text : List ℕ} {at end : ℕ} → at + longest ≤ length room → Put room text at end after
    → Stored room at text longest end after
unfolding placed place_behind
stored {room} {at = at} fits p =
    let room_for = le-leb (at + longest) (length room) fits in
    record { is = rw room_for at p.1; behind = rw room_for at p.0; short = p.2 }
