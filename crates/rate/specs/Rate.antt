-- Digits and a shift for a rate of version one (document 02, request Two), as they are searched for.
use Rattle.std.specs.Prelude.{ℕ, zero, suc, ◌-◌, ◌*◌, ◌^◌, Bool, cond, pos, leb, ltb, Float, None, Option, Some}
use Rattle.std.specs.Float.{binary64}
use Rattle.std.specs.Float.Ieee.{div, eq, of_int}
use Rattle.rate.specs.declared.Pair.{Pair}

-- two whole numbers, each a float exactly, and their quotient, rounded once
abbrev pub quotient : ℕ → ℕ → Float
quotient n power = div binary64 (of_int binary64 (pos n)) (of_int binary64 (pos power))

-- the first of n numbers from a place on that passes a test; where none does, the number behind them
unfoldable pub first : (ℕ → Bool) → ℕ → ℕ → ℕ
first test zero at = at
first test (suc n) at = cond (test at) at (first test n (suc at))

-- digits times one power, divided by another, round to exactly that float; not-a-number equals nothing
abbrev pub rounds_to : Float → ℕ → ℕ → ℕ → Bool
rounds_to rate times over digits = eq (quotient (digits * times) over) rate

-- some digits 1 to 9,999
unfoldable pub digits_of : Float → ℕ → ℕ → ℕ
digits_of rate times over = first (rounds_to rate times over) 9999 1

-- a shift s as the paper writes it, s + 9: digits divided by 10 ^ -s, or times 10 ^ s
unfoldable pub digits_at : Float → ℕ → ℕ
digits_at rate shift = digits_of rate (10 ^ (shift - 9)) (10 ^ (9 - shift))

-- the order of trial: e from 0 to 9 with shift -e, then k from 1 to 3 with shift k
abbrev pub shift_at : ℕ → ℕ
shift_at place = cond (leb place 9) (9 - place) place

abbrev pub has_digits : Float → ℕ → Bool
has_digits rate place = leb (digits_at rate (shift_at place)) 9999

-- the first of the 13 places that has digits, and the first digits there
unfoldable pub place : Float → ℕ
place rate = first (has_digits rate) 13 0

abbrev pub pair_at : Float → ℕ → Option Pair
pair_at rate place = cond (ltb place 13) (Some (record { digits = digits_at rate (shift_at place); shift = shift_at place })) None

unfoldable pub rate_of : Float → Option Pair
rate_of rate = pair_at rate (place rate)

-- the number of the answer: taken, or refused for its rate
abbrev pub pairing_number : Option Pair → ℕ
pairing_number (Some pair) = 0
pairing_number None = 10
