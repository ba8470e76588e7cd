-- Runs worked out, on the card of the printed set-up: of a wrong card the statements are then shown to be false. Assumes nothing.
use mathlib.Core.Bool.{Bool, true, false, not, ◌&&◌}
use mathlib.Core.List.{List, [], ◌∷◌, ◌++◌}
use Prim.Native.Nat.{ℕ, zero, suc, ◌+◌}
use lib.Dec.{T, eqb}
use lib.ListN.{length, replicate}
use Rattle.wire.specs.Wire.{number}
use Rattle.refusal.specs.Refusal.{refusal_number}
use Rattle.rooms.specs.Rooms.{no_rooms, left_in, cell_set, column_set, column_renewed, filled, renewed}
use Rattle.rules.specs.Rules.{find_profile}
use Rattle.setup.specs.Setup.{rules_in, profile_in, fresh_in}
use Rattle.shape.specs.Shape.{based}
use Rattle.shape.specs.declared.Shape.{Shape}
use Rattle.paper.specs.Paper.{next_at, place_after}
use Rattle.paper.specs.Walk.{met_in, place_in}
use Rattle.command.specs.Command.{start_of, second_of, command_of, command_in}
use Rattle.fresh.specs.Fresh.{fresh_state}
use Rattle.card.specs.Card.{step_of, start_step, second_step}
use Rattle.records.specs.Records.{answered_by, scripted_by, body_writes}
use Rattle.keeper.specs.Keeper.{rooms_after, rooms_recorded}
use Rattle.answers.specs.Answers.{answer_bytes}
use Rattle.runs.specs.Runs.{all_read, is_run, Card, card_behind, card_after, answers_to, ruled_run, card_run, room_run}
use Rattle.spelling.specs.Printed.{printed, body}
use Rattle.std.specs.Prelude.{Err, Ok, Result}
use Rattle.refusal.specs.declared.Refusal.{Refusal}

abbrev card : Card
card = record { words = []; rules = rules_in body [] [] 0; rooms = no_rooms; state = fresh_state (fresh_in body []) }

abbrev shape : Shape
shape = based 159

-- records: a Start of profile 1, a Second, which is out of turn
abbrev start : List ℕ
start = 0 ∷ 2 ∷ 2 ∷ 1 ∷ []

abbrev second : List ℕ
second = 0 ∷ 9 ∷ 4 ∷ 1 ∷ 0x59 ∷ 0x33 ∷ 0 ∷ 0 ∷ 0 ∷ 0 ∷ 0 ∷ []

-- a room that holds AA
abbrev lent : ℕ → List ℕ
lent n = replicate n 0xAA

unfoldable pub same : (a b : List ℕ) → Bool
same [] [] = true
same [] (y ∷ b) = false
same (x ∷ a) [] = false
same (x ∷ a) (y ∷ b) = eqb x y && same a b

-- answers of a Start and of a refusal
abbrev started : (atc : ℕ) → List ℕ
started atc = 0 ∷ 0 ∷ 0 ∷ atc ∷ replicate 32 0

abbrev refused : (refusal : ℕ) → List ℕ
refused refusal = refusal ∷ replicate 35 0

-- what became of a run, as a number: that of its refusal, or 100 and its answers
abbrev ran_number : Result ℕ Refusal → ℕ
ran_number (Err refusal) = refusal_number refusal
ran_number (Ok answers) = 100 + answers

-- what became of it, and the room
unfoldable pub comes_to : (run : List ℕ) (room ran : ℕ) → (left : List ℕ) → Bool
comes_to run room ran left =
    eqb (ran_number (ruled_run shape run room)) ran && same (room_run shape [] card run (lent room)) left

-- the ATC of the card after it
abbrev atc_after : (run : List ℕ) (room : ℕ) → ℕ
atc_after run room = (card_run shape [] card run room).state.atc

pub record Samples : Type 0 where
  pub empty : T (comes_to [] 0 100 [] && comes_to [] 5 100 (lent 5))
  pub one : T (comes_to start 36 101 (started 1))
  -- the room that is left stays, and more of it is no fault
  pub beyond : T (comes_to start 41 101 (started 1 ++ lent 5))
  -- a refused command takes its place, zeros in it, and the run goes on
  pub goes_on_lem : T (comes_to (start ++ second ++ start) 108 103 (started 1 ++ refused 2 ++ started 2))
  pub refused-first : T (comes_to (second ++ start) 72 102 (refused 2 ++ started 1))
  -- 17, and nothing is run; exactly enough
  pub short : T (comes_to (start ++ start) 71 17 (lent 71))
  pub enough : T (comes_to (start ++ start) 72 102 (started 1 ++ started 2))
  -- 9: a byte left over, a length 0, a record cut short, a set-up, an unknown kind, another length, a version byte; wherever it stands
  pub left_over : T (comes_to (start ++ 0 ∷ []) 36 9 (lent 36))
  pub length_0 : T (comes_to (start ++ 0 ∷ 0 ∷ []) 36 9 (lent 36))
  pub cut_short_lem : T (comes_to (start ++ 0 ∷ 2 ∷ 2 ∷ []) 72 9 (lent 72))
  pub set_up_lem : T (comes_to (start ++ 0 ∷ 1 ∷ 1 ∷ []) 72 9 (lent 72))
  pub kind-unknown : T (comes_to (start ++ 0 ∷ 1 ∷ 7 ∷ []) 72 9 (lent 72))
  pub too_long_lem : T (comes_to (start ++ 0 ∷ 3 ∷ 2 ∷ 1 ∷ 1 ∷ []) 72 9 (lent 72))
  pub version-byte : T (comes_to (1 ∷ start) 72 9 (lent 72))
  -- 9 before 17
  pub nine_first : T (comes_to (start ++ start ++ 0 ∷ []) 30 9 (lent 30))
  -- the card: as the last record leaves it, and as it was
  pub card_after_lem : T (eqb (atc_after (start ++ second ++ start) 108) 2)
  pub card_stays : T (eqb (atc_after (start ++ start) 71) 0 && eqb (atc_after (start ++ 0 ∷ []) 36) 0)

pub samples : Samples
unfolding ruled_run card_run room_run is_run all_read card_after answers_to card_behind rooms_recorded rooms_after filled renewed column_set column_renewed cell_set
    same comes_to left_in met_in place_in place_after next_at number command_in command_of start_of second_of answered_by scripted_by body_writes step_of answer_bytes
    start_step second_step find_profile rules_in profile_in fresh_state fresh_in printed
samples =
    record {
      empty = tt;
      one = tt;
      beyond = tt;
      goes_on_lem = tt;
      refused-first = tt;
      short = tt;
      enough = tt;
      left_over = tt;
      length_0 = tt;
      cut_short_lem = tt;
      set_up_lem = tt;
      kind-unknown = tt;
      too_long_lem = tt;
      version-byte = tt;
      nine_first = tt;
      card_after_lem = tt;
      card_stays = tt;
    }
