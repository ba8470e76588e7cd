-- What stands in the room behind each line of a log. Assumes nothing.
use mathlib.Core.Path.{◌≡◌, refl, sym, ap, ◌∙◌}
use mathlib.Core.Bool.{Bool, true, false, cond}
use mathlib.Core.List.{List, [], ◌∷◌, ◌++◌, append-nil, append_assoc}
use Prim.Native.Nat.{ℕ, ◌+◌, ◌≤◌, ◌<◌}
use native.Mathlib.Omega.{arith}
use borrow.Author.Tests.{le-leb, lt-leb}
use lib.ListN.{length}
use lib.Seq.{sets, length-sets}
use Rattle.text.specs.Text.{fits, joined}
use Rattle.text.specs.Stored.{Stored}
use Rattle.log_lines.specs.LogLines as line
use Rattle.log_text.specs.LogText.{longest, placed, place_behind}

-- a line that is placed is stored
pub line-stored : {room after text : List ℕ} {at end : ℕ} → at + line.longest ≤ length room → end ≡ line.place_behind (length room) at text
    → after ≡ line.placed room at text → end ≤ at + line.longest → Stored room at text line.longest end after
unfolding line.placed line.place_behind
line-stored {room} {after} {text} {at} fits e p short =
    let there = le-leb (at + line.longest) (length room) fits in
    record { is = p ∙ rw there; behind = e ∙ rw there; short = short }

-- lines behind lines, and one line behind them
pub lines-behind : (lines others : List (List ℕ)) → joined (lines ++ others) ≡ joined lines ++ joined others
unfolding joined
lines-behind [] others = refl
lines-behind (line ∷ more) others = ap (λ rest. line ++ rest) (lines-behind more others) ∙ sym (append_assoc line (joined more) (joined others))

pub line-behind : (lines : List (List ℕ)) (text : List ℕ) → joined (lines ++ text ∷ []) ≡ joined lines ++ text
unfolding joined
line-behind lines text = lines-behind lines (text ∷ []) ∙ ap (λ rest. joined lines ++ rest) (append-nil text)

-- the text, where the longest fits and where it does not
pub place : {room after text : List ℕ} {at end : ℕ} → Stored room at text longest end after → at + longest ≤ length room
    → (end ≡ place_behind (length room) at text) × (after ≡ placed room at text) × (end ≤ at + longest)
unfolding placed place_behind
place {room} {after} {text} {at} p fits =
    let room_for = le-leb (at + longest) (length room) fits in
    (simp room_for p.behind, simp room_for p.is, p.short)

pub stay : (room text : List ℕ) (at : ℕ) → length room < at + longest
    → (at ≡ place_behind (length room) at text) × (room ≡ placed room at text) × (at ≤ at + longest)
unfolding placed place_behind
stay room text at full = let no_room = lt-leb (at + longest) (length room) full in (simp no_room, simp no_room, omega arith)

-- no text is put anywhere
pub nothing : (room : List ℕ) (at : ℕ) → (at ≡ place_behind (length room) at []) × (room ≡ placed room at []) × (at ≤ at + longest)
unfolding placed place_behind
nothing room at = by (fits (length room) at longest) where
  by : (b : Bool) → (at ≡ cond b (at + 0) at) × (room ≡ cond b (sets room at []) room) × (at ≤ at + longest)
  by true = (omega arith, refl, omega arith)
  by false = (refl, refl, omega arith)

pub placed_length : (room : List ℕ) (at : ℕ) (text : List ℕ) → length (placed room at text) ≡ length room
unfolding placed
placed_length room at text = by (fits (length room) at longest) where
  by : (b : Bool) → length (cond b (sets room at text) room) ≡ length room
  by true = length-sets room at text
  by false = refl
