-- A card in cells (request Eleven): the 198 words of its rules and its 16 rooms as they are, then the shape of its paper (17) and its state (37).
use Rattle.std.specs.Prelude.{ℕ, Bool, cond, List, ◌++◌, ltb, length, take, drop}
use Rattle.rules.specs.Rules.{blank_words}
use Rattle.rooms.specs.Rooms.{no_rooms}
use Rattle.shape.specs.declared.Shape.{Shape}
use Rattle.state.specs.declared.State.{State}
use Rattle.shape_seat.specs.Shapes.{shape_cells, shape_in}
use Rattle.seating.specs.States.{state_cells, state_in}

pub record Card : Type 0 where
  pub words : List ℕ
  pub rooms : List ℕ
  pub shape : Shape
  pub state : State

abbrev pub card_of : (words rooms : List ℕ) → Shape → State → Card
card_of words rooms shape state = record { words = words; rooms = rooms; shape = shape; state = state }

abbrev pub size : ℕ
size = 268

abbrev pub is_short : (cells : List ℕ) → Bool
is_short cells = ltb (length cells) size

-- A CARD as cells
unfoldable pub seated : Card → List ℕ
seated card = card.words ++ card.rooms ++ shape_cells card.shape ++ state_cells card.state

-- into the first of some cells; those behind it stay
unfoldable pub stored_in : (cells : List ℕ) → Card → List ℕ
stored_in cells card = seated card ++ drop size cells

-- CELLS as a card, whatever they hold
abbrev pub words_in : (cells : List ℕ) → List ℕ
words_in cells = take 198 cells

abbrev pub rooms_in : (cells : List ℕ) → List ℕ
rooms_in cells = take 16 (drop 198 cells)

unfoldable pub card_in : (cells : List ℕ) → Card
card_in cells = card_of (words_in cells) (rooms_in cells) (shape_in (drop 214 cells)) (state_in (drop 231 cells))

-- A SEAT, of whatever length: nothing is stored in one that is too short, and nothing read
abbrev pub placed_in : (cells : List ℕ) → Card → List ℕ
placed_in cells card = cond (is_short cells) cells (stored_in cells card)

abbrev pub words_or : (cells : List ℕ) → List ℕ
words_or cells = cond (is_short cells) blank_words (words_in cells)

abbrev pub rooms_or : (cells : List ℕ) → List ℕ
rooms_or cells = cond (is_short cells) no_rooms (rooms_in cells)
