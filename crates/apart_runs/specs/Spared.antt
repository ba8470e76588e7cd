-- Cards with their rooms that are alike but for one meter, and records that spare it (document 02, Fourteen).
use Rattle.std.specs.Prelude.{ℕ, ◌≡◌, true, List, [], ◌∷◌, set}
use Rattle.rules.specs.declared.Place.TheVariants.{One, Two, Three, Four}
use Rattle.purchase.specs.Meter.{Meter, accumulator, counter, cyclic}
use Rattle.rooms.specs.Rooms.{cell_of}
use Rattle.shape.specs.declared.Shape.{Shape}
use Rattle.bodies.specs.Bodies.{is_cpace}
use Rattle.choice.specs.Choice.{slots_of}
use Rattle.paper.specs.Walk.{Met}
use Rattle.records.specs.declared.Event.{Event}
use Rattle.runs.specs.Runs.{Card, taken_by, card_behind}
use Rattle.apart.specs.Off.{Quiet, IsUntested, Spares}
use Rattle.apart.specs.Alike.{wiped_state}

-- an accumulator has a room in each profile
abbrev pub wiped_rooms : Meter → List ℕ → List ℕ
wiped_rooms (accumulator i) rooms = set (set (set (set rooms (cell_of One i) 0) (cell_of Two i) 0) (cell_of Three i) 0) (cell_of Four i) 0
wiped_rooms (counter i) rooms = rooms
wiped_rooms (cyclic i) rooms = rooms

abbrev pub wiped_card : Meter → Card → Card
wiped_card x card =
    record { words = card.words; rules = card.rules; rooms = wiped_rooms x card.rooms; state = wiped_state x card.state }

-- ALIKE BUT FOR x: its value and its rooms; all else is the same
abbrev pub AlikeCards : Meter → Card → Card → Type 0
AlikeCards x card other = wiped_card x card ≡ wiped_card x other

module _ (shape : Shape) (paper : List ℕ) where
  -- RECORDS SPARE x, each on the card that the one before left
  unfoldable pub Spared : Meter → Card → List Met → Type 0
  Spared x card [] = Unit
  Spared x card (met ∷ more) =
      Spares card.rules shape card.state paper met.kind met.body x × Spared x (card_behind shape paper card met) more

  -- what they come to: each command with its answer or its refusal
  unfoldable pub events_to : Card → List Met → List Event
  events_to card [] = []
  events_to card (met ∷ more) = (taken_by shape paper card met).event ∷ events_to (card_behind shape paper card met) more

  -- the same, where only a CPACE card's entries are asked: a CPA card's test nothing
  unfoldable pub Chosen : Meter → Card → List Met → Type 0
  Chosen x card [] = Unit
  Chosen x card (met ∷ more) =
      Quiet card.rules x card.state.phase
      × (is_cpace shape.family ≡ true
      → IsUntested shape.selecting (slots_of shape.family card.state.values) paper met.kind met.body x)
      × Chosen x (card_behind shape paper card met) more
