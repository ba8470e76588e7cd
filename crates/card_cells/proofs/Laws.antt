-- A card that is seated is the one that is read, whatever stands behind it. Assumes nothing.
use mathlib.Core.Path.{◌≡◌, ap, ◌∙◌}
use mathlib.Core.List.{List, ◌++◌, append_assoc}
use Prim.Native.Nat.{ℕ, ◌+◌, ◌≤◌, ◌<◌}
use mathlib.Core.Bool.{cond}
use borrow.Author.Tests.{lt-ltb, le-ltb}
use native.Mathlib.Omega.{arith}
use lib.ListN.{length, take, drop, length-append, length-drop}
use lib.Seq.{sets, sets-eq, take_at, drop_at, length-take-le}
use Rattle.shape.specs.declared.Shape.{Shape}
use Rattle.state.specs.declared.State.{State}
use Rattle.shape_seat.specs.Shapes.{shape_cells, shape_in, ShapeFits}
use Rattle.shape_seat.proofs.Back.{shape_back, shape_size}
use Rattle.phase_seat.specs.Phases.{phase_cells}
use Rattle.phase_seat.proofs.Back.{phase-size}
use Rattle.seating.specs.States.{value_cells, mark_cells, state_cells, state_in, StateFits}
use Rattle.seating.proofs.Back.{state_back, value-size, mark_size}
use Rattle.card_cells.specs.Seat.{Card, card_of, size, is_short, seated, stored_in, words_in, rooms_in, card_in}

-- the words and rooms of cells that are enough
pub words_size : (cells : List ℕ) → size ≤ length cells → length (words_in cells) ≡ 198
words_size cells h = length-take-le 198 cells (omega arith)

pub rooms-size : (cells : List ℕ) → size ≤ length cells → length (rooms_in cells) ≡ 16
rooms-size cells h = length-take-le 16 (drop 198 cells) (omega (arith, length-drop 198 cells))

pub state-size : (state : State) → length (state_cells state) ≡ 37
state-size state =
    simp (length-append, value-size state.values, phase-size state.phase, mark_size state)

pub same_card : {a b c d : List ℕ} {e f : Shape} {g h : State} → a ≡ b → c ≡ d → e ≡ f → g ≡ h → card_of a c e g ≡ card_of b d f h
same_card p q r s = rw (p, q, r, s)

module _ (card : Card) (words : length card.words ≡ 198) (rooms : length card.rooms ≡ 16) where
  -- the parts, one behind the other
  abbrev front : List ℕ
  front = card.words ++ card.rooms

  front-size : length front ≡ 214
  front-size = length-append card.words card.rooms ∙ omega arith

  shaped_size : length (front ++ shape_cells card.shape) ≡ 231
  shaped_size = length-append front (shape_cells card.shape) ∙ omega (arith, front-size, shape_size card.shape)

  pub seated-size : length (seated card) ≡ size
  unfolding seated
  seated-size =
      length-append (front ++ shape_cells card.shape) (state_cells card.state) ∙ omega (arith, shaped_size, state-size card.state)

  pub stored : (cells : List ℕ) → size ≤ length cells → sets cells 0 (seated card) ≡ stored_in cells card
  unfolding stored_in
  stored cells h =
      let end : 0 + length (seated card) ≡ size = omega (arith, seated-size) in
      sets-eq (seated card) cells 0 (omega (arith, seated-size)) ∙ ap (λ (n : ℕ). seated card ++ drop n cells) end

  pub seated_back : ShapeFits card.shape → StateFits card.state → (rest : List ℕ) → card_in (seated card ++ rest) ≡ card
  unfolding seated card_in
  seated_back shape state rest =
      let s = shape_cells card.shape in
      let t = state_cells card.state in
      let first : seated card ++ rest ≡ card.words ++ (card.rooms ++ (s ++ (t ++ rest))) = simp append_assoc in
      let second : seated card ++ rest ≡ front ++ (s ++ (t ++ rest)) = simp append_assoc in
      let third : seated card ++ rest ≡ (front ++ s) ++ (t ++ rest) = simp append_assoc in
      same_card (ap (take 198) first ∙ take_at card.words _ 198 words)
      (ap (λ l. take 16 (drop 198 l)) first ∙ ap (take 16) (drop_at card.words _ 198 words) ∙ take_at card.rooms _ 16 rooms)
      (ap (λ l. shape_in (drop 214 l)) second ∙ ap shape_in (drop_at front _ 214 front-size) ∙ shape_back card.shape shape (t ++ rest))
      (ap (λ l. state_in (drop 231 l)) third ∙ ap state_in (drop_at (front ++ s) _ 231 shaped_size) ∙ state_back card.state state rest)

-- cells that are enough for a card, and cells that are not
pub if_long : {A : Type 0} (cells : List ℕ) → size ≤ length cells → (a b : A) → b ≡ cond (is_short cells) a b
if_long cells h a b = rw (le-ltb (length cells) size h)

pub if_short : {A : Type 0} (cells : List ℕ) → length cells < size → (a b : A) → a ≡ cond (is_short cells) a b
if_short cells h a b = rw (lt-ltb (length cells) size h)
