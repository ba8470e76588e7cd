-- The room left (request Seven): the upper limit less the value, or zero if the value is at or above the limit.
use Rattle.std.specs.Prelude.{ℕ, ◌-◌, cond, eqb, ltb}
use Rattle.money.specs.declared.AccumulatorAmount.{AccumulatorAmount}
use Rattle.rules.specs.declared.Place.{Place}
use Rattle.rules.specs.Rules.{Rules, profile_at, accumulator_rule}

abbrev pub left_of : (upper value : ℕ) → ℕ
left_of upper value = cond (ltb value upper) (upper - value) 0

-- of accumulator i + 1 with a value in the profile at a place; no profile has number 0, and a place without one has no room
unfoldable pub left_in : Rules → Place → (i : ℕ) → AccumulatorAmount → ℕ
left_in rules place i value =
    cond (eqb (profile_at rules place).number 0) 0 (left_of (accumulator_rule rules place i).upper.0 value.0)
