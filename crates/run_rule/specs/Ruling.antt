-- A run (document 02, Eleven): the bytes of zero or more records as they stand in a paper, and what is ruled of it.
use Rattle.std.specs.Prelude.{ℕ, ◌*◌, Bool, true, cond, ◌&&◌, List, [], ◌∷◌, leb, ltb, length, Err, None, Ok, Option, Result, Some}
use Rattle.refusal.specs.declared.Refusal.TheVariants.{Unreadable, NoRoomForAnswers}
use Rattle.shape.specs.declared.Shape.{Shape}
use Rattle.paper.specs.Walk.{Met, met_in, place_in}
use Rattle.records.specs.Records.{can_be_read}
use Rattle.answers.specs.Answers.{size}
use Rattle.refusal.specs.declared.Refusal.{Refusal}

-- its records, and where the walk over them stops: at its end, a length 0 or a record cut short
abbrev pub records_in : (run : List ℕ) → List Met
records_in run = met_in (length run) run 0

abbrev pub stop_in : (run : List ℕ) → ℕ
stop_in run = place_in (length run) run 0

unfoldable pub all_read : Shape → List Met → Bool
all_read shape [] = true
all_read shape (met ∷ more) = can_be_read shape met.kind (length met.body) && all_read shape more

-- all of it is records, and each of them can be read
unfoldable pub is_run : Shape → (run : List ℕ) → Bool
is_run shape run = leb (length run) (stop_in run) && all_read shape (records_in run)

unfoldable pub count_of : Shape → (run : List ℕ) → Option ℕ
count_of shape run = cond (is_run shape run) (Some (length (records_in run))) None

-- THE RULING: refusal 9 for what is no run, then 17 for room of so many bytes that is too small for all answers
unfoldable pub ruled_run : Shape → (run : List ℕ) (room : ℕ) → Result ℕ Refusal
ruled_run shape run room =
    cond (is_run shape run)
    (cond (ltb room (size * length (records_in run))) (Err NoRoomForAnswers) (Ok (length (records_in run))))
    (Err Unreadable)
