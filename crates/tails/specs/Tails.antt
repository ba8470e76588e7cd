-- The bytes of a set-up's tails: the range of each field (document 02, Five and Thirteen). Ranges hold for inactive entries too.
use Rattle.std.specs.Prelude.{ℕ, ◌+◌, Bool, ◌&&◌, ◌||◌, List, length, leb, eqb}
use Rattle.wire.specs.Wire.{byte, number, is_currency}
use Rattle.money.specs.Money.{max}
use Rattle.calendar.specs.Calendar.{date_at, is_day}
use Rattle.layout.specs.Layout as layout
use Rattle.ranges.specs.Ranges.{all}

-- THE TAIL OF VERSION 04, where dates are on (request Five); none where they are off
-- a cyclic accumulator at a place: currency (2), amount (8), kind (1 day, 2 week, 3 month), first day (0 Friday to 6 Thursday)
unfoldable pub is_cycle : List ℕ → (at : ℕ) → Bool
is_cycle t at =
    is_currency (number t at 2) && leb (number t (at + layout.cycle_amount) 8) max && leb 1 (byte t (at + layout.cycle_kind))
    && leb (byte t (at + layout.cycle_kind)) 3
    && leb (byte t (at + layout.first_day)) 6

-- its rule at a place: switches (1, 2, 4), limit (8)
unfoldable pub is_cyclic_rule : List ℕ → (at : ℕ) → Bool
is_cyclic_rule t at = leb (byte t at) 7 && leb (number t (at + layout.cyclic_limit) 8) max

-- of profile j + 1; of one that is not there every byte reads as 0
unfoldable pub are_cyclic_rules : List ℕ → (j : ℕ) → Bool
are_cyclic_rules t j = all 2 (λ i. is_cyclic_rule t (layout.cyclic_rule_from j i))

-- the last date a calendar day, both accumulators, the rules of every profile
unfoldable pub are_cycles : List ℕ → Bool
are_cycles t =
    eqb (length t) 0
    || (is_day (date_at t layout.last_date) && all 2 (λ i. is_cycle t (layout.cycle_from i)) && all 4 (are_cyclic_rules t))

-- THE TAIL OF VERSION 05 of a CPACE card (request Thirteen); none of a CPA one
-- the control of slot i + 1 (0 to 15); whether profile j + 1 checks cashback (0/1), of one that is not there it reads as 0
abbrev pub is_control : List ℕ → (i : ℕ) → Bool
is_control f i = leb (byte f (layout.control_from i)) 15

abbrev pub is_cashback : List ℕ → (j : ℕ) → Bool
is_cashback f j = leb (byte f (layout.cashback_from j)) 1

unfoldable pub is_family : List ℕ → Bool
is_family f = eqb (length f) 0 || (all 8 (is_control f) && all 4 (is_cashback f))
