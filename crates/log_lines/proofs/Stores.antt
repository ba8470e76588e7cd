-- What stands in the room behind each part of a line. Assumes nothing.
use mathlib.Core.Path.{◌≡◌, ap, ◌∙◌}
use mathlib.Core.List.{List}
use Prim.Native.Nat.{ℕ, ◌+◌, ◌≤◌, ◌<◌}
use native.Mathlib.Omega.{arith}
use borrow.Author.Tests.{le-leb, lt-leb}
use lib.ListN.{length}
use lib.Seq.{length-sets}
use Rattle.text.specs.Stored.{Stored}
use Rattle.log_lines.specs.LogLines.{longest, placed, place_behind}

-- the room keeps its length
pub same_size : {room after said : List ℕ} {at most end : ℕ} → Stored room at said most end after → length after ≡ length room
same_size {room} {after} {said} {at} p = ap length p.is ∙ length-sets room at said

-- no more than it has
pub as_long : {room after said : List ℕ} {at end most most' : ℕ} → Stored room at said most end after → length said ≤ most'
    → Stored room at said most' end after
as_long p h = record { is = p.is; behind = p.behind; short = omega (arith, p.behind) }

-- a line, where the longest fits and where it does not
pub place : {room after line : List ℕ} {at end : ℕ} → Stored room at line longest end after → at + longest ≤ length room
    → (end ≡ place_behind (length room) at line) × (after ≡ placed room at line) × (end ≤ at + longest)
unfolding placed place_behind
place {room} {after} {line} {at} p fits =
    let room_for = le-leb (at + longest) (length room) fits in
    (simp room_for p.behind, simp room_for p.is, p.short)

pub stay : (room line : List ℕ) (at : ℕ) → length room < at + longest → (at ≡ place_behind (length room) at line) × (room ≡ placed room at line)
    × (at ≤ at + longest)
unfolding placed place_behind
stay room line at full = let no_room = lt-leb (at + longest) (length room) full in (simp no_room, simp no_room, omega arith)
