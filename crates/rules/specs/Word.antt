-- Where the words of the rules stand: one word to a field. What stands first in its part has no name here: from of a rate, a profile's number,
-- a rule's switches.
use Rattle.std.specs.Prelude.{ℕ, ◌+◌, ◌*◌}

-- the head, 5 rates, 4 profiles, the syllabus, 2 cyclic accumulators and their rules, 8 controls, 4 profiles' cashback checks
abbrev pub key_index : ℕ
key_index = 0

abbrev pub pin_tries : ℕ
pin_tries = 1

abbrev pub required : ℕ
required = 2

abbrev pub currencies : ℕ
currencies = 3

abbrev pub rates : ℕ
rates = 7

abbrev pub profiles : ℕ
profiles = 27

abbrev pub syllabus : ℕ
syllabus = 163

abbrev pub cycles : ℕ
cycles = 164

abbrev pub cyclic_rules : ℕ
cyclic_rules = 170

abbrev pub controls : ℕ
controls = 186

abbrev pub cashbacks : ℕ
cashbacks = 194

abbrev pub word_count : ℕ
word_count = 198

-- a rate: from, to, digits, shift
abbrev pub to : ℕ
to = 1

abbrev pub digits : ℕ
digits = 2

abbrev pub shift : ℕ
shift = 3

abbrev pub rate_length : ℕ
rate_length = 4

-- a profile: number, masks, maximum transaction amount, the rules of four accumulators and of four counters, what is sent
abbrev pub online : ℕ
online = 1

abbrev pub decline : ℕ
decline = 2

abbrev pub default : ℕ
default = 3

abbrev pub maximum_on : ℕ
maximum_on = 4

abbrev pub maximum_currency : ℕ
maximum_currency = 5

abbrev pub maximum : ℕ
maximum = 6

abbrev pub accumulators : ℕ
accumulators = 7

abbrev pub counters : ℕ
counters = 19

abbrev pub accumulator_sent : ℕ
accumulator_sent = 31

abbrev pub first_sent : ℕ
first_sent = 32

abbrev pub second_sent : ℕ
second_sent = 33

abbrev pub profile_length : ℕ
profile_length = 34

-- a rule: switches, lower, upper
abbrev pub lower : ℕ
lower = 1

abbrev pub upper : ℕ
upper = 2

abbrev pub rule_length : ℕ
rule_length = 3

-- a cyclic accumulator: currency, kind of cycle, first day of a week
abbrev pub cycle_kind : ℕ
cycle_kind = 1

abbrev pub first_day : ℕ
first_day = 2

abbrev pub cycle_length : ℕ
cycle_length = 3

-- its rule in a profile: switches, limit; each profile has two
abbrev pub cyclic_limit : ℕ
cyclic_limit = 1

abbrev pub cyclic_rule_length : ℕ
cyclic_rule_length = 2

abbrev pub cyclic_rules_length : ℕ
cyclic_rules_length = 4

-- cyclic accumulator i + 1, and its rule in profile j + 1
abbrev pub cycle_from : ℕ → ℕ
cycle_from i = cycles + cycle_length * i

abbrev pub cyclic_rule_from : (j i : ℕ) → ℕ
cyclic_rule_from j i = cyclic_rules + cyclic_rules_length * j + cyclic_rule_length * i

-- rate and profile i + 1
abbrev pub rate_from : ℕ → ℕ
rate_from i = rates + rate_length * i

abbrev pub profile_from : ℕ → ℕ
profile_from i = profiles + profile_length * i
