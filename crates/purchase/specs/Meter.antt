-- A meter: an accumulator, a counter (document 01, "Numbers" and "The paper") or a cyclic accumulator (request Five). A counter is one that
-- stops at 255 and to which a purchase is worth 1; a cyclic accumulator is one that takes no part in a transaction with a date error. A CPACE
-- card's accumulators and counters may be closed to a transaction (request Thirteen).
use Rattle.std.specs.Prelude.{ℕ, ◌+◌, ◌<◌, Bool, true, false, not, get_or}
use Rattle.money.specs.declared.AccumulatorAmount.{AccumulatorAmount}
use Rattle.money.specs.declared.Converted.{Converted}
use Rattle.money.specs.declared.Converted.TheVariants.{Amount}
use Rattle.money.specs.Money.{max, convert_of}
use Rattle.cpace.specs.Cpace.{closes}
use Rattle.rules.specs.declared.Place.{Place}
use Rattle.rules.specs.declared.AccumulatorRule.{AccumulatorRule}
use Rattle.rules.specs.declared.CounterRule.{CounterRule}
use Rattle.rules.specs.declared.Values.{Values}
use Rattle.rules.specs.declared.CyclicRule.{CyclicRule}
use Rattle.rules.specs.Rules.{Rules, currency_at, accumulator_rule, counter_rule, cycle_of, cyclic_rule, control_at}
use Rattle.purchase.specs.declared.Timing.{Timing}
use Rattle.purchase.specs.declared.Timing.TheVariants.{Undated, InOrder, DateError}
use Rattle.purchase.specs.declared.Purchase.{Purchase}

-- accumulator or counter i + 1, of four each; cyclic accumulator i + 1, of two
pub data Meter : Type 0 where
  accumulator : ℕ → Meter
  counter : ℕ → Meter
  cyclic : ℕ → Meter

abbrev pub IsMeter : Meter → Type 0
IsMeter (accumulator i) = i < 4
IsMeter (counter i) = i < 4
IsMeter (cyclic i) = i < 2

-- its rule in a profile; an accumulator never includes offline declines
pub record MeterRule : Type 0 where
  pub active : Bool
  pub allow : Bool
  pub include : Bool
  pub declines : Bool
  pub lower : ℕ
  pub upper : ℕ

abbrev pub accumulating : AccumulatorRule → MeterRule
accumulating rule =
    record {
      active = rule.active;
      allow = rule.allow;
      include = rule.include;
      declines = false;
      lower = rule.lower.0;
      upper = rule.upper.0;
    }

abbrev pub counting : CounterRule → MeterRule
counting rule =
    record {
      active = rule.active;
      allow = rule.allow;
      include = rule.include;
      declines = rule.declines;
      lower = rule.lower;
      upper = rule.upper;
    }

-- a cyclic accumulator has one limit, which is its lower and its upper one
abbrev pub cycling : CyclicRule → MeterRule
cycling rule =
    record {
      active = rule.active;
      allow = rule.allow;
      include = rule.include;
      declines = false;
      lower = rule.limit.0;
      upper = rule.limit.0;
    }

abbrev pub rule_of : Rules → Place → Meter → MeterRule
rule_of rules place (accumulator i) = accumulating (accumulator_rule rules place i)
rule_of rules place (counter i) = counting (counter_rule rules place i)
rule_of rules place (cyclic i) = cycling (cyclic_rule rules place i)

-- its value
abbrev pub amount_at : Values → ℕ → AccumulatorAmount
amount_at values i = get_or values.accumulators i (record { 0 = 0 })

abbrev pub count_at : Values → ℕ → ℕ
count_at values i = get_or values.counters i 0

abbrev pub cyclic_at : Values → ℕ → AccumulatorAmount
cyclic_at values i = get_or values.cyclic i (record { 0 = 0 })

abbrev pub value_of : Values → Meter → ℕ
value_of values (accumulator i) = (amount_at values i).0
value_of values (counter i) = count_at values i
value_of values (cyclic i) = (cyclic_at values i).0

-- where its sums stop
abbrev pub counter_cap : ℕ
counter_cap = 255

abbrev pub cap_of : Meter → ℕ
cap_of (accumulator i) = max
cap_of (counter i) = counter_cap
cap_of (cyclic i) = max

-- what a purchase is worth: to accumulator i + 1, cyclic or not, the amount in its currency, to a counter 1
unfoldable pub worth : Rules → Purchase → ℕ → Converted
worth rules purchase i = convert_of purchase.amount purchase.currency (currency_at rules i) rules.rates

unfoldable pub cyclic_worth : Rules → Purchase → ℕ → Converted
cyclic_worth rules purchase i = convert_of purchase.amount purchase.currency (cycle_of rules i).currency rules.rates

abbrev pub once : Converted
once = Amount (record { 0 = 1 })

abbrev pub worth_to : Rules → Purchase → Meter → Converted
worth_to rules purchase (accumulator i) = worth rules purchase i
worth_to rules purchase (counter i) = once
worth_to rules purchase (cyclic i) = cyclic_worth rules purchase i

-- how a purchase's date stands
abbrev pub is_in_order : Timing → Bool
is_in_order Undated = false
is_in_order InOrder = true
is_in_order (DateError date) = false

abbrev pub is_date_error : Timing → Bool
is_date_error Undated = false
is_date_error InOrder = false
is_date_error (DateError date) = true

-- THE METER TAKES THE PURCHASE UP: an accumulator or a counter if its control does not close it to the transaction's CVM, which a CPA card's
-- never does; a cyclic accumulator if the date is in order. The slots are the four accumulators and then the four counters
unfoldable pub is_open : Rules → Purchase → (slot : ℕ) → Bool
is_open rules purchase slot = not (closes (control_at rules slot) purchase.cvm)

abbrev pub takes_up : Rules → Purchase → Meter → Bool
takes_up rules purchase (accumulator i) = is_open rules purchase i
takes_up rules purchase (counter i) = is_open rules purchase (4 + i)
takes_up rules purchase (cyclic i) = is_in_order purchase.timing

-- the meter's value is tested, with the purchase or without it: a cyclic accumulator's if the date is in order
abbrev pub is_tested : Purchase → Meter → Bool
is_tested purchase (accumulator i) = true
is_tested purchase (counter i) = true
is_tested purchase (cyclic i) = is_in_order purchase.timing
