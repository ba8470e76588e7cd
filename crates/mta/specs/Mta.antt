-- The MTA of an old record (document 02, request Two).
use Rattle.std.specs.Prelude.{ℕ, Bool, true, false, cond, ◌&&◌, pos, nat_le, Float, None, Option, Some}
use Rattle.std.specs.Float.{fin, binary64}
use Rattle.std.specs.Float.Ieee.{lt, in_unsigned, to_unsigned}
use Rattle.money.specs.Money.{max}
use Rattle.money.specs.declared.AccumulatorAmount.{AccumulatorAmount}

-- a whole number from 0 to MAX: `in_unsigned` holds of a float that is a number, finite, whole, not negative and not -0
abbrev pub is_taken : Float → Bool
is_taken mta = in_unsigned binary64 64 mta && nat_le (to_unsigned 64 mta) max

unfoldable pub mta_of : Float → Option AccumulatorAmount
mta_of mta = cond (is_taken mta) (Some (record { 0 = to_unsigned 64 mta })) None

-- the number of the answer: taken, or refused for its MTA
abbrev pub mta_number : Option AccumulatorAmount → ℕ
mta_number (Some amount) = 0
mta_number None = 11

-- above -1 and below 2 ^ 64, where a fraction can be cut off
unfoldable pub is_within : Float → Bool
is_within mta = lt (fin true 1 (pos 0)) mta && lt mta (fin false 1 (pos 64))
