-- What a set-up's body says, byte by byte at document 01's offsets, and what reading it answers.
use Rattle.std.specs.Prelude.{ℕ, ◌+◌, ◌/◌, ◌%◌, Bool, false, cond, ◌&&◌, List, ltb, eqb, Err, Ok, Result}
use Rattle.wire.specs.Wire.{byte, number}
use Rattle.calendar.specs.Calendar.{date_at}
use Rattle.money.specs.declared.AccumulatorAmount.{AccumulatorAmount}
use Rattle.money.specs.declared.Rate.{Rate}
use Rattle.money.specs.Money.{blank}
use Rattle.refusal.specs.declared.Refusal.TheVariants.{BadSetup}
use Rattle.refusal.specs.Refusal.{refusal_number}
use Rattle.rules.specs.declared.AccumulatorRule.{AccumulatorRule}
use Rattle.rules.specs.declared.CounterRule.{CounterRule}
use Rattle.rules.specs.declared.Cycle.{Cycle}
use Rattle.rules.specs.declared.CyclicRule.{CyclicRule}
use Rattle.rules.specs.Rules.{Rules, Profile, two, four, five, eight, blank_profile, period_of}
use Rattle.layout.specs.Layout.{profile_from, conversion_from}
use Rattle.layout.specs.Layout as layout
use Rattle.load.specs.Load.{stored}
use Rattle.ranges.specs.Ranges.{is_setup}
use Rattle.tails.specs.Tails.{are_cycles, is_family}
use Rattle.setup.specs.declared.Fresh.{Fresh}
use Rattle.setup.specs.declared.ReadSetup.{ReadSetup}
use Rattle.refusal.specs.declared.Refusal.{Refusal}

-- conversion: from, to (2 each), d (2), s + 9 (1)
unfoldable pub rate_in : List ℕ → ℕ → Rate
rate_in s at =
    record {
      from = number s at 2;
      to = number s (at + layout.to) 2;
      digits = number s (at + layout.digits) 2;
      shift = byte s (at + layout.shift);
    }

-- an accumulator's switches (1: active, 2: allow accumulation, 4: include this transaction), lower (8), upper (8)
unfoldable pub accumulator_in : List ℕ → ℕ → AccumulatorRule
accumulator_in s at =
    record {
      lower = record { 0 = number s (at + layout.lower) 8 };
      upper = record { 0 = number s (at + layout.upper layout.accumulator_limit) 8 };
      active = eqb (byte s at % 2) 1;
      allow = eqb (byte s at / 2 % 2) 1;
      include = eqb (byte s at / 4 % 2) 1;
    }

-- a counter's switches (the same, allow counting, and 8: include offline declines), lower, upper
unfoldable pub counter_in : List ℕ → ℕ → CounterRule
counter_in s at =
    record {
      lower = byte s (at + layout.lower);
      upper = byte s (at + layout.upper layout.counter_limit);
      active = eqb (byte s at % 2) 1;
      allow = eqb (byte s at / 2 % 2) 1;
      include = eqb (byte s at / 4 % 2) 1;
      declines = eqb (byte s at / 8 % 2) 1;
    }

-- profile: number; masks Online, Decline, Default (4 each); MTA on, its currency (2), MTA (8); four accumulators of 17 bytes;
-- four counters of 3; the accumulator sent; the two counters sent
unfoldable pub profile_in : List ℕ → ℕ → Profile
profile_in s at =
    record {
      number = byte s at;
      masks =
          record {
            online = number s (at + layout.online) 4;
            decline = number s (at + layout.decline) 4;
            default = number s (at + layout.default) 4;
          };
      maximum =
          record {
            on = eqb (byte s (at + layout.maximum_on)) 1;
            currency = number s (at + layout.maximum_currency) 2;
            amount = record { 0 = number s (at + layout.maximum) 8 };
          };
      accumulators = four (λ j. accumulator_in s (at + layout.accumulator_rule_from j));
      counters = four (λ j. counter_in s (at + layout.counter_rule_from j));
      sent =
          record {
            accumulator = byte s (at + layout.accumulator_sent);
            first = byte s (at + layout.first_sent);
            second = byte s (at + layout.second_sent);
          };
    }

-- of the tail of version 04, a cyclic accumulator: currency (2), (amount (8),) kind, first day
unfoldable pub cycle_in : List ℕ → ℕ → Cycle
cycle_in t at =
    record { currency = number t at 2; period = period_of (byte t (at + layout.cycle_kind)); first = byte t (at + layout.first_day) }

-- its switches (1: active, 2: allow accumulation, 4: include this transaction) and limit (8) in a profile
unfoldable pub cyclic_in : List ℕ → ℕ → CyclicRule
cyclic_in t at =
    record {
      limit = record { 0 = number t (at + layout.cyclic_limit) 8 };
      active = eqb (byte t at % 2) 1;
      allow = eqb (byte t at / 2 % 2) 1;
      include = eqb (byte t at / 4 % 2) 1;
    }

-- key index; PIN tries; issuer authentication required; p; c; (the fresh card's ATC and go online next;) four accumulators of currency
-- (2) and value (8); (four counter values;) p profiles; c conversions; beside this base the tail of version 04; that of
-- version 05: (family,) the controls of four accumulators and of four counters, p cashback checks; and the syllabus
unfoldable pub rules_in : (s t f : List ℕ) → ℕ → Rules
rules_in s t f syllabus =
    record {
      key = byte s layout.key_index;
      pin = byte s layout.pin_tries;
      required = eqb (byte s layout.required) 1;
      currencies = four (λ i. number s (layout.accumulator_from i) 2);
      rates =
          record {
            entries = five (λ i. cond (ltb i (byte s layout.conversions)) (rate_in s (conversion_from s i)) blank);
            up = eqb syllabus 1;
          };
      profiles = four (λ i. cond (ltb i (byte s layout.profiles)) (profile_in s (profile_from i)) blank_profile);
      cycles = two (λ i. cycle_in t (layout.cycle_from i));
      cyclic_rules = four (λ j. two (λ i. cyclic_in t (layout.cyclic_rule_from j i)));
      controls = eight (λ i. byte f (layout.control_from i));
      cashbacks = four (λ j. eqb (byte f (layout.cashback_from j)) 1);
    }

-- what accumulator i + 1 of a fresh card holds
abbrev pub value_in : List ℕ → ℕ → AccumulatorAmount
value_in s i = record { 0 = number s (layout.accumulator_from i + layout.value) 8 }

-- what cyclic accumulator i + 1 holds
abbrev pub amount_in : List ℕ → ℕ → AccumulatorAmount
amount_in t i = record { 0 = number t (layout.cycle_from i + layout.cycle_amount) 8 }

-- what a fresh card starts from
unfoldable pub fresh_in : (s t : List ℕ) → Fresh
fresh_in s t =
    record {
      values = record { accumulators = four (value_in s); counters = four (λ i. byte s (layout.counters + i)); cyclic = two (amount_in t) };
      atc = number s layout.atc 2;
      online = eqb (byte s layout.online_next) 1;
      last = date_at t layout.last_date;
    }

abbrev pub no_card : Fresh
no_card =
    record {
      values =
          record { accumulators = four (λ i. record { 0 = 0 }); counters = four (λ i. 0); cyclic = two (λ i. record { 0 = 0 }) };
      atc = 0;
      online = false;
      last = record { year = 0; month = 0; day = 0 };
    }

-- base and tails in their ranges
abbrev pub is_accepted : (s t f : List ℕ) (unnamed : ℕ) → Bool
is_accepted s t f unnamed = is_setup s unnamed && are_cycles t && is_family f

-- refusal 1 leaves the lent words as they were
unfoldable pub read_setup : (s t f : List ℕ) (unnamed : ℕ) → ReadSetup
read_setup s t f unnamed =
    cond (is_accepted s t f unnamed) (record { fresh = fresh_in s t; answer = Ok tt }) (record { fresh = no_card; answer = Err BadSetup })

unfoldable pub words_after : (words s t f : List ℕ) (syllabus unnamed : ℕ) → List ℕ
words_after words s t f syllabus unnamed = cond (is_accepted s t f unnamed) (stored words s t f syllabus) words

abbrev pub setup_number : Result Unit Refusal → ℕ
setup_number (Ok done) = 0
setup_number (Err refusal) = refusal_number refusal
