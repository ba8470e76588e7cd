-- A text that fits is placed. Assumes nothing.
use mathlib.Core.Path.{◌≡◌, refl, ◌∙◌}
use mathlib.Core.List.{List}
use Prim.Native.Nat.{ℕ, ◌+◌, ◌≤◌, ◌<◌}
use native.Mathlib.Omega.{arith}
use borrow.Author.Tests.{le-leb, lt-leb}
use lib.ListN.{length}
use lib.Seq.{sets-eq}
use Rattle.text.specs.Stored.{Stored}
use Rattle.lines.specs.Lines.{longest, placed, place_behind}

pub place : {room after text : List ℕ} {at end most : ℕ} → Stored room at text most end after → most ≤ longest → at + longest ≤ length room
    → (end ≡ place_behind (length room) at text) × (after ≡ placed room at text)
unfolding placed place_behind
place {room} {after} {text} {at} {end} p short fits =
    let room_for = le-leb (at + longest) (length room) fits in
    (simp room_for p.behind, simp room_for (p.is ∙ sets-eq text room at (omega arith)))

pub stay : (room text : List ℕ) (at : ℕ) → length room < at + longest → (at ≡ place_behind (length room) at text) × (room ≡ placed room at text)
unfolding placed place_behind
stay room text at full = let no_room = lt-leb (at + longest) (length room) full in (simp no_room, simp no_room)
