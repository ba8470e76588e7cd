-- The cells after a filling, and after a renewing of cells that were right, hold what the rules and the values say; where no value moved they
-- stay. Assumes nothing.
use mathlib.Core.Path.{◌≡◌, refl, sym, ap, subst, ◌∙◌}
use mathlib.Core.Bool.{Bool, true, false, cond}
use mathlib.Core.List.{List, [], ◌∷◌, ◌++◌}
use mathlib.Core.Logic.{◌⊎◌, inl, inr}
use Prim.Native.Nat.{ℕ, zero, suc, ◌+◌, ◌-◌, ◌≤◌, ◌<◌}
use native.Mathlib.Omega.{arith}
use borrow.Author.Tests.{eqb-true, eq-eqb, ne_eqb, lt-ltb, ltb-true, ltb-false, le-ltb}
use lib.Dec.{eqb, ltb}
use lib.ListN.{length, get_or, length-set}
use Rattle.money.specs.declared.AccumulatorAmount.{AccumulatorAmount}
use Rattle.rules.specs.declared.Place.{Place}
use Rattle.rules.specs.declared.Place.TheVariants.{One, Two, Three, Four}
use Rattle.rules.specs.declared.Values.{Values}
use Rattle.rules.specs.Rules.{Rules, profile_at, accumulator_rule, find_profile}
use Rattle.rules.proofs.Places.{each}
use Rattle.purchase.specs.Meter.{amount_at}
use Rattle.rooms.specs.Rooms.{left_of, left_in, rooms_at, rooms_of, stored_at, room_left, room_number, cell_count, cell_of, cell_set, column_set, column_renewed, filled, renewed}
use Rattle.std.specs.Prelude.{None, Ok, Some}

-- n cells, by their places
abbrev listed : ℕ → (ℕ → ℕ) → List ℕ
listed zero f = []
listed (suc n) f = f 0 ∷ listed n (λ k. f (suc k))

listed-all : (rooms : List ℕ) → listed (length rooms) (λ k. get_or rooms k 0) ≡ rooms
listed-all [] = refl
listed-all (x ∷ rooms) = ap (λ (r : List ℕ). x ∷ r) (listed-all rooms)

-- with the room left the value is the limit; at or above the limit there is none
pub left_is : (upper value : ℕ) → (value ≤ upper → left_of upper value + value ≡ upper) × (upper ≤ value → left_of upper value ≡ 0)
left_is upper value = by (ltb value upper) refl where
  by : (b : Bool) → ltb value upper ≡ b
      → (value ≤ upper → cond b (upper - value) 0 + value ≡ upper) × (upper ≤ value → cond b (upper - value) 0 ≡ 0)
  by true e = let below = ltb-true value upper e in (λ h. omega arith, λ h. omega arith)
  by false e = let above = ltb-false value upper e in (λ h. omega arith, λ h. refl)

module _ (rules : Rules) where
  pub absent : (place : Place) (i : ℕ) (value : AccumulatorAmount) → (profile_at rules place).number ≡ 0 → left_in rules place i value ≡ 0
  unfolding left_in
  absent place i value e = rw e

  pub present : (place : Place) (i : ℕ) (value : AccumulatorAmount) → ((profile_at rules place).number ≡ 0 → ⊥)
      → left_in rules place i value ≡ left_of (accumulator_rule rules place i).upper.0 value.0
  unfolding left_in
  present place i value some = rw (ne_eqb (profile_at rules place).number 0 some)

  -- ---- what is stored

  pub stored : (values : Values) (place : Place) (i : ℕ) → i < 4
      → get_or (rooms_of rules values) (cell_of place i) 0 ≡ left_in rules place i (amount_at values i)
  unfolding rooms_of rooms_at
  stored values One = each _ refl refl refl refl
  stored values Two = each _ refl refl refl refl
  stored values Three = each _ refl refl refl refl
  stored values Four = each _ refl refl refl refl

  pub stored-four : (values : Values) (place : Place) → stored_at (rooms_of rules values) place ≡ rooms_at rules values place
  unfolding rooms_of rooms_at
  stored-four values One = refl
  stored-four values Two = refl
  stored-four values Three = refl
  stored-four values Four = refl

  -- and so what is answered for accumulator i + 1 of a profile
  pub asked : (values : Values) (profile : ℕ) (place : Place) (i : ℕ) → find_profile rules profile ≡ Some place → i < 4
      → room_left rules (rooms_of rules values) profile (i + 1) ≡ Ok (record { 0 = left_in rules place i (amount_at values i) })
  unfolding room_left
  asked values profile place i found h =
      let last : i + 1 - 1 ≡ i = omega arith in
      rw (found, ne_eqb (i + 1) 0 (λ z. omega arith), le-ltb 4 (i + 1) (omega arith), last, stored values place i h)

  -- refusals: 3, then 6
  pub unknown : (rooms : List ℕ) (profile accumulator : ℕ) → find_profile rules profile ≡ None
      → room_number (room_left rules rooms profile accumulator) ≡ 3
  unfolding room_left
  unknown rooms profile accumulator e = rw e

  pub out_of_range : (rooms : List ℕ) (profile accumulator : ℕ) (place : Place) → find_profile rules profile ≡ Some place
      → (accumulator ≡ 0) ⊎ (4 < accumulator)
      → room_number (room_left rules rooms profile accumulator) ≡ 6
  unfolding room_left
  out_of_range rooms profile accumulator place e (inl none) = rw (e, none)
  out_of_range rooms profile accumulator place e (inr over) =
      rw (e, ne_eqb accumulator 0 (λ z. omega arith), lt-ltb 4 accumulator over)

  pub rooms-size : (values : Values) → length (rooms_of rules values) ≡ cell_count
  unfolding rooms_of rooms_at
  rooms-size values = refl

  -- ---- the cells stay as many

  column-size : (i : ℕ) (value : AccumulatorAmount) (rooms : List ℕ) → length (column_set rules i value rooms) ≡ length rooms
  unfolding column_set cell_set
  column-size i value rooms = simp length-set

  renewed-column-size : (i : ℕ) (before after : AccumulatorAmount) (rooms : List ℕ)
      → length (column_renewed rules i before after rooms) ≡ length rooms
  unfolding column_renewed
  renewed-column-size i before after rooms = by (eqb before.0 after.0) refl where
    by : (b : Bool) → eqb before.0 after.0 ≡ b → length (column_renewed rules i before after rooms) ≡ length rooms
    by true e = rw e
    by false e = rw e (column-size i after rooms)

  pub filled-size : (values : Values) (rooms : List ℕ) → length (filled rules values rooms) ≡ length rooms
  unfolding filled
  filled-size values rooms = simp column-size

  pub renewed-size : (before after : Values) (rooms : List ℕ) → length (renewed rules before after rooms) ≡ length rooms
  unfolding renewed
  renewed-size before after rooms = simp renewed-column-size

  -- ---- filled

  filled-listed : (values : Values) (f : ℕ → ℕ) → filled rules values (listed cell_count f) ≡ rooms_of rules values
  unfolding filled column_set cell_set rooms_of rooms_at
  filled-listed values f = refl

  pub filled_is : (values : Values) (rooms : List ℕ) → length rooms ≡ cell_count → filled rules values rooms ≡ rooms_of rules values
  filled_is values rooms size =
      let spelled = subst (λ (n : ℕ). listed n (λ k. get_or rooms k 0) ≡ rooms) size (listed-all rooms) in
      ap (filled rules values) (sym spelled) ∙ filled-listed values (λ k. get_or rooms k 0)

  -- ---- renewed

  -- a value that did not move is the same
  column-kept : (i : ℕ) (value : AccumulatorAmount) (rooms : List ℕ) → column_renewed rules i value value rooms ≡ rooms
  unfolding column_renewed
  column-kept i value rooms = rw (eq-eqb value.0 value.0 refl)

  pub unmoved : (before after : Values) (rooms : List ℕ) → before.accumulators ≡ after.accumulators → renewed rules before after rooms ≡ rooms
  unfolding renewed
  unmoved before after rooms e = rw e (simp column-kept)

  -- a column of cells that were right is right afterwards, moved or not
  column-renewed : (i : ℕ) (before after : AccumulatorAmount) (rooms : AccumulatorAmount → List ℕ)
      → column_set rules i after (rooms before) ≡ rooms after → column_renewed rules i before after (rooms before) ≡ rooms after
  unfolding column_renewed
  column-renewed i before after rooms set = by (eqb before.0 after.0) refl where
    by : (b : Bool) → eqb before.0 after.0 ≡ b → column_renewed rules i before after (rooms before) ≡ rooms after
    by true e = rw e (ap rooms (ap (λ (n : ℕ). record { 0 = n }) (eqb-true before.0 after.0 e)))
    by false e = rw e set

  -- the cells of four values
  abbrev row : (a b c d : AccumulatorAmount) → Place → List ℕ
  row a b c d place = left_in rules place 0 a ∷ left_in rules place 1 b ∷ left_in rules place 2 c ∷ left_in rules place 3 d ∷ []

  abbrev cells : (a b c d : AccumulatorAmount) → List ℕ
  cells a b c d = row a b c d One ++ row a b c d Two ++ row a b c d Three ++ row a b c d Four

  pub renewed-is : (before after : Values) → renewed rules before after (rooms_of rules before) ≡ rooms_of rules after
  unfolding renewed rooms_of rooms_at column_set cell_set
  renewed-is before after =
      let old : ℕ → AccumulatorAmount = amount_at before in
      let new : ℕ → AccumulatorAmount = amount_at after in
      rw (
        column-renewed 0 (old 0) (new 0) (λ x. cells x (old 1) (old 2) (old 3)) refl,
        column-renewed 1 (old 1) (new 1) (λ x. cells (new 0) x (old 2) (old 3)) refl,
        column-renewed 2 (old 2) (new 2) (λ x. cells (new 0) (new 1) x (old 3)) refl,
        column-renewed 3 (old 3) (new 3) (λ x. cells (new 0) (new 1) (new 2) x) refl,
      )
