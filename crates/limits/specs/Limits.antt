-- The tests of the limits (document 01, "Start and the checks"; document 02, Five and Thirteen).
use Rattle.std.specs.Prelude.{ℕ, ◌+◌, ◌*◌, Bool, true, false, ◌&&◌, ◌||◌, List, [], ◌∷◌, ◌++◌, ltb}
use Rattle.money.specs.declared.Converted.{Converted}
use Rattle.money.specs.declared.Converted.TheVariants.{Amount, Over, NoEntry}
use Rattle.rules.specs.declared.Place.{Place}
use Rattle.rules.specs.declared.CyclicRule.{CyclicRule}
use Rattle.rules.specs.declared.Values.{Values}
use Rattle.rules.specs.Rules.{Rules, four}
use Rattle.purchase.specs.declared.Purchase.{Purchase}
use Rattle.purchase.specs.Meter.{Meter, accumulator, counter, cyclic, MeterRule, rule_of, value_of, worth_to, takes_up, is_tested, is_date_error}

-- a value and what a purchase is worth exceed a limit; the sum isn't stopped, and over exceeds every limit (request Four)
abbrev pub sum_exceeds : (limit value : ℕ) → Converted → Bool
sum_exceeds limit value (Amount more) = ltb limit (value + more.0)
sum_exceeds limit value Over = true
sum_exceeds limit value NoEntry = false

-- a value exceeds a limit, or, where the purchase is in the test, the sum does
abbrev pub value_exceeds : (limit value : ℕ) (include : Bool) → Converted → Bool
value_exceeds limit value include worth = ltb limit value || (include && sum_exceeds limit value worth)

-- the purchase is in the test of a meter that takes it up and has "include this transaction"
abbrev pub is_included : Rules → Purchase → Meter → MeterRule → Bool
is_included rules purchase meter rule = takes_up rules purchase meter && rule.include

abbrev pub exceeds : MeterRule → (include : Bool) → Converted → (limit value : ℕ) → Bool
exceeds rule include worth limit value = rule.active && value_exceeds limit value include worth

abbrev pub exceeds_lower : Rules → Place → Values → Purchase → Meter → Bool
exceeds_lower rules place values purchase meter =
    let rule = rule_of rules place meter in
    is_tested purchase meter
    && exceeds rule (is_included rules purchase meter rule) (worth_to rules purchase meter) rule.lower (value_of values meter)

abbrev pub exceeds_upper : Rules → Place → Values → Purchase → Meter → Bool
exceeds_upper rules place values purchase meter =
    let rule = rule_of rules place meter in
    is_tested purchase meter
    && exceeds rule (is_included rules purchase meter rule) (worth_to rules purchase meter) rule.upper (value_of values meter)

unfoldable pub accumulators_lower : Rules → Place → Values → Purchase → List Bool
accumulators_lower rules place values purchase = four (λ i. exceeds_lower rules place values purchase (accumulator i))

unfoldable pub accumulators_upper : Rules → Place → Values → Purchase → List Bool
accumulators_upper rules place values purchase = four (λ i. exceeds_upper rules place values purchase (accumulator i))

unfoldable pub counters_lower : Rules → Place → Values → Purchase → List Bool
counters_lower rules place values purchase = four (λ i. exceeds_lower rules place values purchase (counter i))

unfoldable pub counters_upper : Rules → Place → Values → Purchase → List Bool
counters_upper rules place values purchase = four (λ i. exceeds_upper rules place values purchase (counter i))

-- bits 22 and 23: the cyclic accumulators' limits, in a transaction whose date is in order; bit 24: a date error
unfoldable pub dating_flags : Rules → Place → Values → Purchase → List Bool
dating_flags rules place values purchase =
    exceeds_upper rules place values purchase (cyclic 0) ∷ exceeds_upper rules place values purchase (cyclic 1)
    ∷ is_date_error purchase.timing
    ∷ []

-- flags as a number, bit 0 first
abbrev pub bit : Bool → ℕ
bit true = 1
bit false = 0

abbrev pub packed : List Bool → ℕ
packed [] = 0
packed (flag ∷ flags) = bit flag + 2 * packed flags

-- the limits that a meter exceeds: bit 0 the lower, bit 4 the upper
abbrev pub limit_bits : MeterRule → (include : Bool) → Converted → ℕ → ℕ
limit_bits rule include worth value =
    bit (exceeds rule include worth rule.lower value) + bit (exceeds rule include worth rule.upper value) * 16

-- that a cyclic accumulator exceeds its limit, where it takes part
abbrev pub cyclic_exceeds : CyclicRule → Converted → ℕ → Bool
cyclic_exceeds rule worth value = rule.active && value_exceeds rule.limit.0 value rule.include worth

-- those of all four: bits 0 to 3 the lower, bits 4 to 7 the upper
abbrev pub accumulator_bits : Rules → Place → Values → Purchase → ℕ
accumulator_bits rules place values purchase =
    packed (accumulators_lower rules place values purchase ++ accumulators_upper rules place values purchase)

abbrev pub counter_bits : Rules → Place → Values → Purchase → ℕ
counter_bits rules place values purchase = packed (counters_lower rules place values purchase ++ counters_upper rules place values purchase)

abbrev pub dating_bits : Rules → Place → Values → Purchase → ℕ
dating_bits rules place values purchase = packed (dating_flags rules place values purchase)
