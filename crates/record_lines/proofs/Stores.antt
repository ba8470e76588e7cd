-- What stands in the room behind each part of a text. Assumes nothing.
use mathlib.Core.Path.{◌≡◌, refl, sym, ◌∙◌}
use mathlib.Core.Bool.{Bool, true, false}
use mathlib.Core.List.{List, [], ◌∷◌, append-nil}
use Prim.Native.Nat.{ℕ, ◌+◌, ◌≤◌}
use native.Mathlib.Omega.{arith}
use borrow.Author.Tests.{leb-true}
use lib.ListN.{length}
use Rattle.rules.specs.Rules.{Rules}
use Rattle.records.specs.declared.Event.{Event}
use Rattle.records.specs.declared.Event.TheVariants.{SetUp, End, Refused, Answered}
use Rattle.text.specs.Stored.{Stored}
use Rattle.text.proofs.Stores.{next, within}
use Rattle.lines.specs.Lines as lines
use Rattle.lines.specs.Sitting.{event_line}
use Rattle.lines.proofs.Placed.{behind-is, placed-is}
use Rattle.room_lines.specs.RoomLines.{room_lines}
use Rattle.record_lines.specs.declared.Showing.{Showing}
use Rattle.record_lines.specs.RecordLines.{longest, has_room, shown_lines, set_up_text, record_text, placed, place_behind}

-- a line that lines wrote
pub line : {room after text : List ℕ} {at end : ℕ} → at + 82 ≤ length room → length text ≤ 82 → end ≡ lines.place_behind (length room) at text
    → after ≡ lines.placed room at text → Stored room at text 82 end after
line {room} {after} {text} {at} {end} fits short e p =
    let behind = e ∙ behind-is (length room) at text fits in
    record { is = p ∙ placed-is room at text fits short; behind = behind; short = omega arith }

-- ---- behind the set-up's line

module _ {room between : List ℕ} {at middle : ℕ} (showing : Showing) (rules : Rules) (rooms : List ℕ) (event : Event) where
  pub set_up_lem : {after : List ℕ} {end : ℕ} → event ≡ SetUp → Stored room at (event_line 0 event) 82 middle between
      → Stored between middle (shown_lines showing (room_lines rules rooms)) 372 end after → Stored room at (set_up_text showing rules rooms event) longest end after
  unfolding set_up_text
  set_up_lem e p q = rw e (next (rw e at p) q)

  pub not_set_up : (event ≡ SetUp → ⊥) → Stored room at (event_line 0 event) 82 middle between
      → Stored room at (set_up_text showing rules rooms event) longest middle between
  unfolding set_up_text
  not_set_up k p = by event k (within p (omega arith)) where
    by : (v : Event) → (v ≡ SetUp → ⊥) → Stored room at (event_line 0 v) longest middle between
        → Stored room at (set_up_text showing rules rooms v) longest middle between
    by SetUp k q = absurd (k refl)
    by End k q = q
    by (Refused refusal) k q = rw (append-nil (event_line 0 (Refused refusal))) q
    by (Answered said answer) k q = rw (append-nil (event_line 0 (Answered said answer))) q

  -- ---- behind a record's

  module _ (number : ℕ) where
    pub at-end : event ≡ End → Stored room at (event_line number event) 82 middle between
        → Stored room at (record_text showing rules rooms number event) longest middle between
    unfolding record_text
    at-end e p = rw e (within (rw e at p) (omega arith))

    pub recorded : {after : List ℕ} {end : ℕ} → (event ≡ End → ⊥)
        → Stored room at (event_line number event) 82 middle between → Stored between middle (shown_lines showing (room_lines rules rooms)) 372 end after
        → Stored room at (record_text showing rules rooms number event) longest end after
    unfolding record_text
    recorded {after} {end} k p q = by event k p where
      by : (v : Event) → (v ≡ End → ⊥) → Stored room at (event_line number v) 82 middle between
          → Stored room at (record_text showing rules rooms number v) longest end after
      by SetUp k s = next s q
      by End k s = absurd (k refl)
      by (Refused refusal) k s = next s q
      by (Answered said answer) k s = next s q

-- ---- a text, where the longest fits and where it does not

pub fits : (room : List ℕ) (at : ℕ) {asked : Bool} → asked ≡ has_room (length room) at → asked ≡ true → has_room (length room) at ≡ true
fits room at e is = sym e ∙ is

pub enough : (room : List ℕ) (at : ℕ) {asked : Bool} → asked ≡ has_room (length room) at → asked ≡ true → at + longest ≤ length room
enough room at e is = leb-true (at + longest) (length room) (fits room at e is)

pub place : {room after text : List ℕ} {at end most : ℕ} → has_room (length room) at ≡ true → Stored room at text most end after
    → (end ≡ place_behind (length room) at text) × (after ≡ placed room at text)
unfolding placed place_behind
place room_for p = (rw room_for p.behind, rw room_for p.is)

pub stay : (room text : List ℕ) (at : ℕ) → has_room (length room) at ≡ false
    → (at ≡ place_behind (length room) at text) × (room ≡ placed room at text)
unfolding placed place_behind
stay room text at full = (rw full, rw full)
