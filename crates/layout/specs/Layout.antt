-- Where the fields of a set-up's body stand (document 01, "The paper"): each from the beginning of its part. What stands first in its part
-- has no name here: an accumulator's currency, a profile's number, a rule's switches, from of a conversion.
use Rattle.std.specs.Prelude.{ℕ, ◌+◌, ◌*◌, cond, List, length, ltb}
use Rattle.wire.specs.Wire.{byte}

-- the head: key index; PIN tries; issuer authentication required; p; c; ATC (2); go online next; accumulators; counters
abbrev pub key_index : ℕ
key_index = 0

abbrev pub pin_tries : ℕ
pin_tries = 1

abbrev pub required : ℕ
required = 2

abbrev pub profiles : ℕ
profiles = 3

abbrev pub conversions : ℕ
conversions = 4

abbrev pub atc : ℕ
atc = 5

abbrev pub online_next : ℕ
online_next = 7

abbrev pub accumulators : ℕ
accumulators = 8

abbrev pub counters : ℕ
counters = 48

abbrev pub head_length : ℕ
head_length = 52

-- an accumulator: currency (2), value (8)
abbrev pub value : ℕ
value = 2

abbrev pub accumulator_length : ℕ
accumulator_length = 10

-- a profile: number; masks Online, Decline, Default (4 each); MTA on, its currency (2), MTA (8); the rules of four accumulators and of four
-- counters; the accumulator sent; the two counters sent
abbrev pub online : ℕ
online = 1

abbrev pub decline : ℕ
decline = 5

abbrev pub default : ℕ
default = 9

abbrev pub maximum_on : ℕ
maximum_on = 13

abbrev pub maximum_currency : ℕ
maximum_currency = 14

abbrev pub maximum : ℕ
maximum = 16

abbrev pub accumulator_rules : ℕ
accumulator_rules = 24

abbrev pub counter_rules : ℕ
counter_rules = 92

abbrev pub accumulator_sent : ℕ
accumulator_sent = 104

abbrev pub first_sent : ℕ
first_sent = 105

abbrev pub second_sent : ℕ
second_sent = 106

abbrev pub profile_length : ℕ
profile_length = 107

-- a rule: switches, lower, upper; a limit has 8 bytes for an accumulator, 1 for a counter
abbrev pub accumulator_limit : ℕ
accumulator_limit = 8

abbrev pub counter_limit : ℕ
counter_limit = 1

abbrev pub lower : ℕ
lower = 1

abbrev pub upper : ℕ → ℕ
upper limit = lower + limit

abbrev pub rule_length : ℕ → ℕ
rule_length limit = lower + 2 * limit

-- a conversion: from, to (2 each), d (2), s + 9
abbrev pub to : ℕ
to = 2

abbrev pub digits : ℕ
digits = 4

abbrev pub shift : ℕ
shift = 6

abbrev pub conversion_length : ℕ
conversion_length = 7

-- the tail of version 04 (request Five): dated; last date (3); two cyclic accumulators; for each profile, in the set-up's order, their rules
abbrev pub last_date : ℕ
last_date = 1

abbrev pub cycles : ℕ
cycles = 4

abbrev pub cyclic_rules : ℕ
cyclic_rules = 28

-- a cyclic accumulator: currency (2), amount (8), kind of cycle, first day of a week
abbrev pub cycle_amount : ℕ
cycle_amount = 2

abbrev pub cycle_kind : ℕ
cycle_kind = 10

abbrev pub first_day : ℕ
first_day = 11

abbrev pub cycle_length : ℕ
cycle_length = 12

-- its rule in a profile: switches, limit (8)
abbrev pub cyclic_limit : ℕ
cyclic_limit = 1

abbrev pub cyclic_rule_length : ℕ
cyclic_rule_length = 9

-- those of both
abbrev pub cyclic_rules_length : ℕ
cyclic_rules_length = 18

-- the tail of version 05 (request Thirteen): family; the controls of four accumulators and of four counters; for each profile, in the set-up's
-- order, whether it checks cashback
abbrev pub controls : ℕ
controls = 1

abbrev pub cashbacks : ℕ
cashbacks = 9

-- accumulator i + 1 of the head
abbrev pub accumulator_from : ℕ → ℕ
accumulator_from i = accumulators + accumulator_length * i

-- the rules of accumulator and of counter j + 1, in a profile
abbrev pub accumulator_rule_from : ℕ → ℕ
accumulator_rule_from j = accumulator_rules + rule_length accumulator_limit * j

abbrev pub counter_rule_from : ℕ → ℕ
counter_rule_from j = counter_rules + rule_length counter_limit * j

-- cyclic accumulator i + 1, and its rule in profile j + 1, in the tail of version 04
abbrev pub cycle_from : ℕ → ℕ
cycle_from i = cycles + cycle_length * i

abbrev pub cyclic_rule_from : (j i : ℕ) → ℕ
cyclic_rule_from j i = cyclic_rules + cyclic_rules_length * j + cyclic_rule_length * i

-- where dates are on, the tail has 28 + 18p bytes
abbrev pub cycles_length : List ℕ → ℕ
cycles_length s = cyclic_rules + cyclic_rules_length * byte s profiles

-- the control of slot i + 1: of accumulator i + 1, or from 5 on of a counter; whether profile j + 1 checks cashback
abbrev pub control_from : ℕ → ℕ
control_from i = controls + i

abbrev pub cashback_from : ℕ → ℕ
cashback_from j = cashbacks + j

-- a CPACE card's tail has 9 + p bytes
abbrev pub family_length : List ℕ → ℕ
family_length s = cashbacks + byte s profiles

-- p profiles stand behind the head, and c conversions behind them: 52 + 107p + 7c bytes
abbrev pub profile_from : ℕ → ℕ
profile_from i = head_length + profile_length * i

abbrev pub conversion_from : List ℕ → ℕ → ℕ
conversion_from s i = profile_from (byte s profiles) + conversion_length * i

abbrev pub base_length : List ℕ → ℕ
base_length s = conversion_from s (byte s conversions)

-- one that is not there stands at the end, where every byte reads as 0
abbrev pub profile_place : List ℕ → ℕ → ℕ
profile_place s i = cond (ltb i (byte s profiles)) (profile_from i) (length s)

abbrev pub conversion_place : List ℕ → ℕ → ℕ
conversion_place s i = cond (ltb i (byte s conversions)) (conversion_from s i) (length s)
