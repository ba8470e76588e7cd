-- A run on the card that is read, and what a call leaves of its cells. Assumes nothing.
use mathlib.Core.Path.{◌≡◌, refl, sym, ◌∙◌}
use mathlib.Core.List.{List}
use Prim.Native.Nat.{ℕ, ◌-◌}
use native.Mathlib.Nat.{le_of_eq}
use mathlib.Core.Bool.{cond}
use borrow.Author.Tests.{eq-eqb, ne_eqb}
use lib.Dec.{eqb}
use lib.ListN.{length, take, drop, length-drop}
use lib.Seq.{take_all}
use Rattle.shape.specs.declared.Shape.{Shape}
use Rattle.state.specs.declared.State.{State}
use Rattle.shape_seat.specs.Shapes.{shape_in}
use Rattle.seating.specs.States.{state_in}
use Rattle.runs.specs.Runs as runs
use Rattle.card_cells.specs.Seat.{words_in, rooms_in, card_in}
use Rattle.seat.specs.Calls.{run_card, ruling}

-- the cells from a place on, as a part of them is lent
pub from_on : (n : ℕ) (cells : List ℕ) → take (length cells - n) (drop n cells) ≡ drop n cells
from_on n cells = take_all (length cells - n) (drop n cells) (le_of_eq (length-drop n cells))

-- what a call leaves of its cells
pub stays : {n m : ℕ} (stored cells : List ℕ) → n ≡ m → (n ≡ 0 → ⊥) → cells ≡ cond (eqb m 0) stored cells
stays {m} stored cells is some = rw (ne_eqb m 0 (λ z. some (is ∙ z)))

pub changes : {m : ℕ} (stored cells : List ℕ) → 0 ≡ m → stored ≡ cond (eqb m 0) stored cells
changes {m} stored cells none = rw (eq-eqb m 0 (sym none))

pub shape_in_cells : (cells : List ℕ) → shape_in (drop 214 cells) ≡ (card_in cells).shape
unfolding card_in
shape_in_cells cells = refl

-- a run on words, rooms, a shape and a state that were read
module _ {words rooms : List ℕ} {shape : Shape} {state : State} (paper cells records : List ℕ)
    (w : words ≡ words_in cells) (r : rooms ≡ rooms_in cells) (s : shape ≡ shape_in (drop 214 cells)) (t : state ≡ state_in (drop 231 cells)) where
  pub same-run : (n : ℕ) → runs.card_run shape paper (runs.card_of words rooms state) records n
      ≡ runs.card_run (card_in cells).shape paper (run_card (card_in cells)) records n
  unfolding card_in
  same-run n = rw (w, r, s, t)

  pub same_room : (room : List ℕ) → runs.room_run shape paper (runs.card_of words rooms state) records room
      ≡ runs.room_run (card_in cells).shape paper (run_card (card_in cells)) records room
  unfolding card_in
  same_room room = rw (w, r, s, t)

  pub same-ruling : (n : ℕ) → runs.ruled_run shape records n ≡ ruling cells records n
  unfolding card_in
  same-ruling n = rw s
