-- Runs as the blocks of a stack (request Eleven): the text of what became of the run.
use Rattle.std.specs.Prelude.{Bool, cond, ◌&&◌, List, ◌++◌, ℕ, leb, length, drop, None, Some}
use Rattle.std.proofs.lemmas.List.Edits.{sets}
use Rattle.shape.specs.declared.Shape.{Shape}
use Rattle.state.specs.declared.State.{State}
use Rattle.runs.specs.Runs.{Card, card_run, room_run, ruled_run}
use Rattle.run_block.specs.RunBlock.{size_in, records_in, lent}
use Rattle.run_page.specs.RunPage.{page_of, page_size}
use Rattle.bench.specs.declared.Turn.{Turn}

-- A BLOCK ANSWERED: so many bytes of room and of text are enough for a run in a room of some size
abbrev pub has_room : (size room text : ℕ) → Bool
has_room size room text = leb size room && leb (page_size size) text

abbrev pub turned : State → (page : List ℕ) → Turn
turned state page = record { state = state; page = Some (length page) }

module _ (shape : Shape) (paper : List ℕ) (card : Card) (block : List ℕ) where
  -- the card, the room and the text behind its run
  unfoldable pub card_behind : Card
  card_behind = card_run shape paper card (records_in block) (size_in block)

  unfoldable pub room_behind : List ℕ
  room_behind = room_run shape paper card (records_in block) (lent block)

  unfoldable pub page_behind : List ℕ
  page_behind = page_of (ruled_run shape (records_in block) (size_in block)) room_behind

  -- without room nothing is run, and all stays
  unfoldable pub turn_of : (room text : ℕ) → Turn
  turn_of room text = cond (has_room (size_in block) room text) (turned card_behind.state page_behind) (record { state = card.state; page = None })

  unfoldable pub card_turned : (room text : ℕ) → Card
  card_turned room text = cond (has_room (size_in block) room text) card_behind card

  -- behind what was lent the room stays
  unfoldable pub room_turned : (room : List ℕ) (text : ℕ) → List ℕ
  room_turned room text = cond (has_room (size_in block) (length room) text) (room_behind ++ drop (size_in block) room) room

  unfoldable pub text_turned : (room : ℕ) (text : List ℕ) → List ℕ
  text_turned room text = cond (has_room (size_in block) room (length text)) (sets text 0 page_behind) text
