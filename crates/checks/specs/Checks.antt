-- The tests and the decision bits (document 01, "Start and the checks"; document 02, Five and Thirteen).
use Rattle.std.specs.Prelude.{ℕ, ◌+◌, ◌*◌, Bool, true, false, not, ◌&&◌, List, [], ◌∷◌, ◌++◌, ltb, eqb}
use Rattle.std.specs.Int.Bits.{bit_and}
use Rattle.money.specs.declared.Converted.{Converted}
use Rattle.money.specs.declared.Converted.TheVariants.{Amount, Over, NoEntry}
use Rattle.money.specs.Money.{convert_of}
use Rattle.rules.specs.declared.Place.{Place}
use Rattle.rules.specs.declared.Values.{Values}
use Rattle.rules.specs.Rules.{Rules, profile_at, checks_cashback}
use Rattle.purchase.specs.declared.Purchase.{Purchase}
use Rattle.purchase.specs.Meter.{Meter, accumulator, counter, cyclic}
use Rattle.state.specs.declared.History.{History}
use Rattle.limits.specs.Limits.{accumulators_lower, accumulators_upper, counters_lower, counters_upper, dating_flags, packed}

-- the bits of a meter: the accumulators' lower limits from 6 on and upper ones from 10 on, the counters' from 14 and from 18 on; a cyclic
-- accumulator's one limit from 22 on
abbrev pub lower_bit : Meter → ℕ
lower_bit (accumulator i) = 6 + i
lower_bit (counter i) = 14 + i
lower_bit (cyclic i) = 22 + i

abbrev pub upper_bit : Meter → ℕ
upper_bit (accumulator i) = 10 + i
upper_bit (counter i) = 18 + i
upper_bit (cyclic i) = 22 + i

-- bit 5: MTA is on and the amount, converted to its currency, exceeds it, as over does; without a conversion it isn't set
abbrev pub spent_exceeds : (limit : ℕ) → Converted → Bool
spent_exceeds limit (Amount spent) = ltb limit spent.0
spent_exceeds limit Over = true
spent_exceeds limit NoEntry = false

unfoldable pub maximum_exceeded : Rules → Place → Purchase → Bool
maximum_exceeded rules place purchase =
    let maximum = (profile_at rules place).maximum in
    maximum.on
    && spent_exceeds maximum.amount.0 (convert_of purchase.amount purchase.currency maximum.currency rules.rates)

-- bit 25: the profile checks cashback, and there is some
abbrev pub cashback_found : Rules → Place → Purchase → Bool
cashback_found rules place purchase = checks_cashback rules place && purchase.cashback

-- bits 0 to 4 copy the history
abbrev pub history_flags : History → List Bool
history_flags history = history.uncompleted ∷ history.online ∷ history.failed ∷ history.unable ∷ history.missing ∷ []

-- house order, bit 0 upward
abbrev pub decision_flags : Rules → Place → Values → Purchase → History → List Bool
decision_flags rules place values purchase history =
    history_flags history ++ maximum_exceeded rules place purchase ∷ accumulators_lower rules place values purchase
    ++ accumulators_upper rules place values purchase ++ counters_lower rules place values purchase ++ counters_upper rules place values purchase
    ++ dating_flags rules place values purchase ++ cashback_found rules place purchase ∷ []

-- the tests' bits, from bit 5 on
abbrev pub test_flags : Rules → Place → Values → Purchase → List Bool
test_flags rules place values purchase =
    maximum_exceeded rules place purchase ∷ accumulators_lower rules place values purchase
    ++ accumulators_upper rules place values purchase ++ counters_lower rules place values purchase ++ counters_upper rules place values purchase
    ++ dating_flags rules place values purchase ++ cashback_found rules place purchase ∷ []

unfoldable pub test_bits : Rules → Place → Values → Purchase → ℕ
test_bits rules place values purchase = 32 * packed (test_flags rules place values purchase)

unfoldable pub decision_bits : Rules → Place → Values → Purchase → History → ℕ
decision_bits rules place values purchase history = packed (decision_flags rules place values purchase history)

-- the groups of four among the decision bits
abbrev pub accumulators_lower_group : ℕ
accumulators_lower_group = 0x3C0

abbrev pub accumulators_upper_group : ℕ
accumulators_upper_group = 0x3C00

abbrev pub counters_lower_group : ℕ
counters_lower_group = 0x3C000

abbrev pub counters_upper_group : ℕ
counters_upper_group = 0x3C0000

-- bit 24
abbrev pub date_error : ℕ
date_error = 0x1000000

-- some bit is in both
abbrev pub meets_mask : (adr mask : ℕ) → Bool
meets_mask adr mask = not (eqb (bit_and adr mask) 0)
