-- What an element of a PUT DATA command writes (request Twelve; CPA 18.8): a value, of an accumulator that is active or not; limits, in every
-- profile. Without such a slot nothing changes.
use Rattle.std.specs.Prelude.{ℕ, List, set}
use Rattle.money.specs.declared.AccumulatorAmount.{AccumulatorAmount}
use Rattle.rules.specs.declared.Values.{Values}
use Rattle.rules.specs.Rules.{Rules}
use Rattle.rules.specs.Limits.{with_accumulator_limits, with_counter_limits, accumulator_limits_put, counter_limits_put}
use Rattle.element.specs.declared.Write.{Write}
use Rattle.element.specs.declared.Write.TheVariants.{Value, AccumulatorLimits, CounterLimits}

unfoldable pub value_in : Values → (slot : ℕ) → AccumulatorAmount → Values
value_in values slot amount =
    record { accumulators = set values.accumulators slot amount; counters = values.counters; cyclic = values.cyclic }

abbrev pub values_with : Values → Write → Values
values_with values (Value slot amount) = value_in values slot amount
values_with values (AccumulatorLimits slot lower upper) = values
values_with values (CounterLimits slot lower upper) = values

abbrev pub rules_with : Rules → Write → Rules
rules_with rules (Value slot amount) = rules
rules_with rules (AccumulatorLimits slot lower upper) = with_accumulator_limits rules slot lower upper
rules_with rules (CounterLimits slot lower upper) = with_counter_limits rules slot lower upper

-- the words that hold the rules
abbrev pub words_with : List ℕ → Write → List ℕ
words_with words (Value slot amount) = words
words_with words (AccumulatorLimits slot lower upper) = accumulator_limits_put words slot lower upper
words_with words (CounterLimits slot lower upper) = counter_limits_put words slot lower upper
