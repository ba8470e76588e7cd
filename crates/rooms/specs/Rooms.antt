-- The rooms left (request Seven): one for each accumulator of each profile, active or not.
use Rattle.std.specs.Prelude.{ℕ, ◌+◌, ◌*◌, ◌-◌, cond, ◌||◌, List, ◌++◌, eqb, ltb, get_or, set, replicate, Err, None, Ok, Option, Result, Some}
use Rattle.refusal.specs.declared.Refusal.TheVariants.{UnknownProfile, OutOfRange}
use Rattle.refusal.specs.Refusal.{refusal_number}
use Rattle.money.specs.declared.AccumulatorAmount.{AccumulatorAmount}
use Rattle.rules.specs.declared.Place.{Place}
use Rattle.rules.specs.declared.Place.TheVariants.{One, Two, Three, Four}
use Rattle.rules.specs.declared.Values.{Values}
use Rattle.rules.specs.Rules.{Rules, four, index_of, find_profile}
use Rattle.purchase.specs.Meter.{amount_at}
pub use Rattle.room.specs.Room.{left_of}
use Rattle.refusal.specs.declared.Refusal.{Refusal}
unfoldable pub use Rattle.room.specs.Room.{left_in}

-- ALL OF THEM by the rules and the values, the four of the first place and so on
unfoldable pub rooms_at : Rules → Values → Place → List ℕ
rooms_at rules values place = four (λ i. left_in rules place i (amount_at values i))

unfoldable pub rooms_of : Rules → Values → List ℕ
rooms_of rules values = rooms_at rules values One ++ rooms_at rules values Two ++ rooms_at rules values Three ++ rooms_at rules values Four

-- THE CELLS that store them, accumulator i + 1's of a place
abbrev pub cell_count : ℕ
cell_count = 16

abbrev pub cell_of : Place → (i : ℕ) → ℕ
cell_of place i = 4 * index_of place + i

-- before a set-up is read
abbrev pub no_rooms : List ℕ
no_rooms = replicate cell_count 0

-- worked out anew: one cell; accumulator i + 1's four; these where its value moved
unfoldable pub cell_set : Rules → Place → (i : ℕ) → AccumulatorAmount → List ℕ → List ℕ
cell_set rules place i value rooms = set rooms (cell_of place i) (left_in rules place i value)

unfoldable pub column_set : Rules → (i : ℕ) → AccumulatorAmount → List ℕ → List ℕ
column_set rules i value rooms =
    cell_set rules Four i value (cell_set rules Three i value (cell_set rules Two i value (cell_set rules One i value rooms)))

unfoldable pub column_renewed : Rules → (i : ℕ) → (before after : AccumulatorAmount) → List ℕ → List ℕ
column_renewed rules i before after rooms = cond (eqb before.0 after.0) rooms (column_set rules i after rooms)

-- all sixteen; those whose value moved
unfoldable pub filled : Rules → Values → List ℕ → List ℕ
filled rules values rooms =
    let column : ℕ → List ℕ → List ℕ = λ i. column_set rules i (amount_at values i) in
    column 3 (column 2 (column 1 (column 0 rooms)))

unfoldable pub renewed : Rules → (before after : Values) → List ℕ → List ℕ
renewed rules before after rooms =
    let column : ℕ → List ℕ → List ℕ = λ i. column_renewed rules i (amount_at before i) (amount_at after i) in
    column 3 (column 2 (column 1 (column 0 rooms)))

-- the four that are stored for a place
abbrev pub stored_at : List ℕ → Place → List ℕ
stored_at rooms place = four (λ i. get_or rooms (cell_of place i) 0)

-- ASKED for an accumulator of a profile, by their numbers: what is stored; refusal 3 for a profile that the set-up lacks, then 6 for an
-- accumulator that is not 1 to 4
abbrev pub room_in : List ℕ → (accumulator : ℕ) → Option Place → Result AccumulatorAmount Refusal
room_in rooms accumulator None = Err UnknownProfile
room_in rooms accumulator (Some place) =
    cond (eqb accumulator 0 || ltb 4 accumulator) (Err OutOfRange) (Ok (record { 0 = get_or rooms (cell_of place (accumulator - 1)) 0 }))

unfoldable pub room_left : Rules → List ℕ → (profile accumulator : ℕ) → Result AccumulatorAmount Refusal
room_left rules rooms profile accumulator = room_in rooms accumulator (find_profile rules profile)

abbrev pub room_number : Result AccumulatorAmount Refusal → ℕ
room_number (Ok room) = 0
room_number (Err refusal) = refusal_number refusal
