-- New limits of an accumulator or a counter: in every profile, active or not (request Twelve). Without such a slot nothing changes.
use Rattle.std.specs.Prelude.{ℕ, ◌+◌, ◌*◌, cond, List, map, ltb, get_or, set}
use Rattle.money.specs.declared.AccumulatorAmount.{AccumulatorAmount}
use Rattle.rules.specs.declared.Place.{Place}
use Rattle.rules.specs.declared.Place.TheVariants.{One, Two, Three, Four}
use Rattle.rules.specs.declared.AccumulatorRule.{AccumulatorRule}
use Rattle.rules.specs.declared.CounterRule.{CounterRule}
use Rattle.rules.specs.Rules.{Profile, Rules, blank_accumulator, blank_counter, profile_base}
use Rattle.rules.specs.Word as word

-- a rule keeps its switches
abbrev pub accumulator_within : (lower upper : AccumulatorAmount) → AccumulatorRule → AccumulatorRule
accumulator_within lower upper rule =
    record { lower = lower; upper = upper; active = rule.active; allow = rule.allow; include = rule.include }

abbrev pub counter_within : (lower upper : ℕ) → CounterRule → CounterRule
counter_within lower upper rule =
    record {
      lower = lower;
      upper = upper;
      active = rule.active;
      allow = rule.allow;
      include = rule.include;
      declines = rule.declines;
    }

-- a profile keeps all but the rule of accumulator i + 1, or of counter i + 1
abbrev pub accumulator_limits_in : (i : ℕ) (lower upper : AccumulatorAmount) → Profile → Profile
accumulator_limits_in i lower upper profile =
    record {
      number = profile.number;
      masks = profile.masks;
      maximum = profile.maximum;
      accumulators = set profile.accumulators i (accumulator_within lower upper (get_or profile.accumulators i blank_accumulator));
      counters = profile.counters;
      sent = profile.sent;
    }

abbrev pub counter_limits_in : (i lower upper : ℕ) → Profile → Profile
counter_limits_in i lower upper profile =
    record {
      number = profile.number;
      masks = profile.masks;
      maximum = profile.maximum;
      accumulators = profile.accumulators;
      counters = set profile.counters i (counter_within lower upper (get_or profile.counters i blank_counter));
      sent = profile.sent;
    }

-- the rules keep all but their profiles
abbrev pub in_each_profile : (Profile → Profile) → Rules → Rules
in_each_profile change rules =
    record {
      key = rules.key;
      pin = rules.pin;
      required = rules.required;
      currencies = rules.currencies;
      rates = rules.rates;
      profiles = map change rules.profiles;
      cycles = rules.cycles;
      cyclic_rules = rules.cyclic_rules;
      controls = rules.controls;
      cashbacks = rules.cashbacks;
    }

unfoldable pub with_accumulator_limits : Rules → (i : ℕ) (lower upper : AccumulatorAmount) → Rules
with_accumulator_limits rules i lower upper = in_each_profile (accumulator_limits_in i lower upper) rules

unfoldable pub with_counter_limits : Rules → (i lower upper : ℕ) → Rules
with_counter_limits rules i lower upper = in_each_profile (counter_limits_in i lower upper) rules

-- the words: the limits of the rule that stands this far behind the profile's first word, in one profile and in all
unfoldable pub limits_put : (place : Place) (rule lower upper : ℕ) → List ℕ → List ℕ
limits_put place rule lower upper w =
    set (set w (profile_base place + rule + word.lower) lower) (profile_base place + rule + word.upper) upper

unfoldable pub limits_put_in_all : (rule lower upper : ℕ) → List ℕ → List ℕ
limits_put_in_all rule lower upper w =
    limits_put Four rule lower upper (limits_put Three rule lower upper (limits_put Two rule lower upper (limits_put One rule lower upper w)))

unfoldable pub accumulator_limits_put : List ℕ → (i : ℕ) (lower upper : AccumulatorAmount) → List ℕ
accumulator_limits_put w i lower upper = cond (ltb i 4) (limits_put_in_all (word.accumulators + word.rule_length * i) lower.0 upper.0 w) w

unfoldable pub counter_limits_put : List ℕ → (i lower upper : ℕ) → List ℕ
counter_limits_put w i lower upper = cond (ltb i 4) (limits_put_in_all (word.counters + word.rule_length * i) lower upper w) w
