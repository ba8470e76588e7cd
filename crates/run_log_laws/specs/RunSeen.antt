-- What is said in a run, where it stands and what is answered (document 02, Eight and Eleven): of the commands, the lent place and the answers alone.
use Rattle.std.specs.Prelude.{ℕ, ◌+◌, ◌*◌, List, [], ◌∷◌, length, take, Err, Ok, Result}
use Rattle.shape.specs.declared.Shape.{Shape}
use Rattle.paper.specs.Walk.{Met}
use Rattle.journal.specs.declared.Logging.{Logging}
use Rattle.journal.specs.Logged.{Seen}
use Rattle.runs.specs.Runs.{Card, taken_by, card_behind, ruled_run, room_run}
use Rattle.run_log.specs.RunLog.{ring_run}
use Rattle.log_laws.specs.Spoken.{seen_then}
use Rattle.refusal.specs.declared.Refusal.{Refusal}

-- the answers of a run in the room: 36 bytes each, and none where it was refused
abbrev pub answers_in : Result ℕ Refusal → (room : List ℕ) → List ℕ
answers_in (Ok n) room = take (36 * n) room
answers_in (Err refusal) room = []

module _ (shape : Shape) (paper : List ℕ) where
  -- THE RECORDS THAT ARE ANSWERED, from a place on, the oldest first, each on the card that the one before left
  unfoldable pub seen_over : Card → (place : ℕ) → List Met → List Seen
  seen_over card place [] = []
  seen_over card place (met ∷ more) =
      seen_then place (taken_by shape paper card met).event (seen_over (card_behind shape paper card met) (place + 3 + length met.body) more)

  -- THE RING behind a run on a card that was lent a room, its records lying from a place on
  unfoldable pub ring_behind : Logging → Card → (run : List ℕ) (place : ℕ) (room ring : List ℕ) → List ℕ
  ring_behind logging card run place room ring =
      ring_run logging run place (answers_in (ruled_run shape run (length room)) (room_run shape paper card run room)) ring
