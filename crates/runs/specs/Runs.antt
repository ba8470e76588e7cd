-- A run carried out (document 02, Eleven): the card behind its records, and their answers in the lent room.
use Rattle.std.specs.Prelude.{ℕ, List, [], ◌∷◌, ◌++◌, length, Err, Ok, Result}
use Rattle.std.proofs.lemmas.List.Edits.{sets}
use Rattle.rules.specs.Rules.{Rules, rules_of}
use Rattle.shape.specs.declared.Shape.{Shape}
use Rattle.paper.specs.Walk.{Met}
use Rattle.script.specs.Script.{rules_after, words_after}
use Rattle.element.specs.declared.Write.{Write}
use Rattle.state.specs.declared.State.{State}
use Rattle.records.specs.declared.Event.{Event}
use Rattle.records.specs.declared.Event.TheVariants.{SetUp, End, Refused as EventRefused, Answered}
use Rattle.records.specs.declared.Taken.{Taken}
use Rattle.records.specs.Records.{record_taken, record_writes}
use Rattle.keeper.specs.Keeper.{rooms_recorded}
use Rattle.answers.specs.Answers.{answer_bytes}
pub use Rattle.run_rule.specs.Ruling.{records_in, stop_in}
unfoldable pub use Rattle.run_rule.specs.Ruling.{all_read, is_run, ruled_run}
use Rattle.runs.specs.declared.RunEnd.{RunEnd}
use Rattle.refusal.specs.declared.Refusal.{Refusal}

-- THE CARD: its rules and the words that they lie in, the room left, its state
pub record Card : Type 0 where
  pub words : List ℕ
  pub rules : Rules
  pub rooms : List ℕ
  pub state : State

abbrev pub card_of : (words rooms : List ℕ) → State → Card
card_of words rooms state = record { words = words; rules = rules_of words; rooms = rooms; state = state }

-- where an answer was given, its 36 bytes
abbrev pub answered_in : Event → List ℕ
answered_in SetUp = []
answered_in End = []
answered_in (EventRefused refusal) = []
answered_in (Answered said answer) = answer_bytes answer

module _ (shape : Shape) (paper : List ℕ) where
  -- A RECORD on a card: what it comes to, what it writes, and the card behind it
  abbrev pub taken_by : Card → Met → Taken
  taken_by card met = record_taken card.rules shape card.state paper met.kind met.body 0

  abbrev pub writes_of : Card → Met → List Write
  writes_of card met = record_writes shape card.state met.kind met.body

  unfoldable pub card_behind : Card → Met → Card
  card_behind card met =
      record {
        words = words_after card.words (writes_of card met);
        rules = rules_after card.rules (writes_of card met);
        rooms = rooms_recorded card.rules shape card.state paper met.kind met.body 0 card.rooms;
        state = (taken_by card met).state;
      }

  -- RECORDS, one after the other: the card after them, and their answers
  unfoldable pub card_after : Card → List Met → Card
  card_after card [] = card
  card_after card (met ∷ more) = card_after (card_behind card met) more

  unfoldable pub answers_to : Card → List Met → List ℕ
  answers_to card [] = []
  answers_to card (met ∷ more) = answered_in (taken_by card met).event ++ answers_to (card_behind card met) more

-- a run is carried out, or for a refusal nothing is
abbrev pub unless : {A : Type 0} → Result ℕ Refusal → (refused done : A) → A
unless (Err refusal) refused done = refused
unless (Ok answers) refused done = done

unfoldable pub card_run : Shape → (paper : List ℕ) → Card → (run : List ℕ) (room : ℕ) → Card
card_run shape paper card run room = unless (ruled_run shape run room) card (card_after shape paper card (records_in run))

-- the answers stand in the room from its first byte on; behind them it stays
unfoldable pub room_run : Shape → (paper : List ℕ) → Card → (run room : List ℕ) → List ℕ
room_run shape paper card run room =
    unless (ruled_run shape run (length room)) room (sets room 0 (answers_to shape paper card (records_in run)))

abbrev pub end_of : Shape → (paper : List ℕ) → Card → (run : List ℕ) (room : ℕ) → RunEnd
end_of shape paper card run room = record { state = (card_run shape paper card run room).state; ran = ruled_run shape run room }
