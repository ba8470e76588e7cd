-- What the fields of a set-up come to: the rules that they are, and what a fresh card starts from (document 01, "The paper"; document 02, Five and
-- Thirteen).
use Rattle.std.specs.Prelude.{ℕ, zero, suc, ◌+◌, ◌*◌, ◌/◌, ◌%◌, ◌≡◌, Bool, true, false, List, [], ◌∷◌, ◌++◌, eqb, length, Ok}
use Rattle.money.specs.declared.AccumulatorAmount.{AccumulatorAmount}
use Rattle.money.specs.declared.Rate.{Rate}
use Rattle.money.specs.Money.{blank}
use Rattle.calendar.specs.declared.Period.{Period}
use Rattle.calendar.specs.declared.Period.TheVariants.{Day, Week, Month}
use Rattle.calendar.specs.declared.Date.{Date}
use Rattle.rules.specs.declared.AccumulatorRule.{AccumulatorRule}
use Rattle.rules.specs.declared.CounterRule.{CounterRule}
use Rattle.rules.specs.declared.Cycle.{Cycle}
use Rattle.rules.specs.declared.CyclicRule.{CyclicRule}
use Rattle.rules.specs.Rules.{Rules, Profile as ProfileRules, blank_profile, blank_cycle, blank_cyclic, rules_of}
use Rattle.rules.specs.Word.{word_count}
use Rattle.setup.specs.declared.Fresh.{Fresh}
use Rattle.setup.specs.Setup.{rules_in, fresh_in, is_accepted, read_setup, words_after}
use Rattle.rows.specs.Rows.{Limits, Profile, Conversion, Setup, Two, Cyclic, CyclicLimit, Dates, undated, dated}
use Rattle.rows.specs.Rows.{Families, cpa, cpace, listed}

-- the switch of value k (1, 2, 4 or 8)
abbrev pub switch : (k switches : ℕ) → Bool
switch k switches = eqb (switches / k % 2) 1

-- 0/1
abbrev pub yes_if_one : ℕ → Bool
yes_if_one n = eqb n 1

-- 1: active, 2: allow accumulation, 4: include this transaction
abbrev pub accumulator_said : Limits → AccumulatorRule
accumulator_said l =
    record {
      lower = record { 0 = l.lower };
      upper = record { 0 = l.upper };
      active = switch 1 l.switches;
      allow = switch 2 l.switches;
      include = switch 4 l.switches;
    }

-- 1: active, 2: allow counting, 4: include this transaction, 8: include offline declines
abbrev pub counter_said : Limits → CounterRule
counter_said l =
    record {
      lower = l.lower;
      upper = l.upper;
      active = switch 1 l.switches;
      allow = switch 2 l.switches;
      include = switch 4 l.switches;
      declines = switch 8 l.switches;
    }

unfoldable pub profile_said : Profile → ProfileRules
profile_said p =
    record {
      number = p.number;
      masks = record { online = p.online; decline = p.decline; default = p.default };
      maximum = record { amount = record { 0 = p.maximum }; currency = p.maximum-currency; on = yes_if_one p.maximum-on };
      accumulators =
          accumulator_said p.accumulators.one ∷ accumulator_said p.accumulators.two ∷ accumulator_said p.accumulators.three
          ∷ accumulator_said p.accumulators.four
          ∷ [];
      counters =
          counter_said p.counters.one ∷ counter_said p.counters.two ∷ counter_said p.counters.three ∷ counter_said p.counters.four ∷ [];
      sent = record { accumulator = p.accumulator-sent; first = p.first-sent; second = p.second-sent };
    }

unfoldable pub conversion_said : Conversion → Rate
conversion_said c = record { from = c.from; to = c.to; digits = c.digits; shift = c.shift }

-- what the entry at a place says, blank where there is none
abbrev pub said_at : {A B : Type 0} → (A → B) → B → List A → ℕ → B
said_at said missing [] i = missing
said_at said missing (x ∷ xs) zero = said x
said_at said missing (x ∷ xs) (suc i) = said_at said missing xs i

abbrev pub profile_at : Setup → ℕ → ProfileRules
profile_at x i = said_at profile_said blank_profile x.profiles i

abbrev pub conversion_at : Setup → ℕ → Rate
conversion_at x i = said_at conversion_said blank x.conversions i

-- 1 day, 2 week, 3 month
abbrev pub period_said : (kind : ℕ) → Period
period_said zero = Month
period_said (suc zero) = Day
period_said (suc (suc zero)) = Week
period_said (suc (suc (suc kind))) = Month

abbrev pub cyclic_said : Cyclic → Cycle
cyclic_said c = record { currency = c.currency; period = period_said c.kind; first = c.first }

-- 1: active, 2: allow accumulation, 4: include this transaction
abbrev pub cyclic_limit_said : CyclicLimit → CyclicRule
cyclic_limit_said l =
    record {
      limit = record { 0 = l.limit };
      active = switch 1 l.switches;
      allow = switch 2 l.switches;
      include = switch 4 l.switches;
    }

abbrev pub cyclic_limits_said : Two CyclicLimit → List CyclicRule
cyclic_limits_said r = cyclic_limit_said r.one ∷ cyclic_limit_said r.two ∷ []

-- where dates are off all is blank
abbrev pub cycles_said : Dates → List Cycle
cycles_said undated = blank_cycle ∷ blank_cycle ∷ []
cycles_said (dated d) = cyclic_said d.accumulators.one ∷ cyclic_said d.accumulators.two ∷ []

abbrev pub cyclic_rules_at : Dates → ℕ → List CyclicRule
cyclic_rules_at undated j = blank_cyclic ∷ blank_cyclic ∷ []
cyclic_rules_at (dated d) j = said_at cyclic_limits_said (blank_cyclic ∷ blank_cyclic ∷ []) d.rules j

abbrev pub amounts_said : Dates → List AccumulatorAmount
amounts_said undated = record { 0 = 0 } ∷ record { 0 = 0 } ∷ []
amounts_said (dated d) = record { 0 = d.accumulators.one.amount } ∷ record { 0 = d.accumulators.two.amount } ∷ []

abbrev pub last_said : Dates → Date
last_said undated = record { year = 0; month = 0; day = 0 }
last_said (dated d) = record { year = d.year; month = d.month; day = d.day }

-- the controls of the four accumulators, then of the four counters; a CPA card's are 0
abbrev pub controls_said : Families → List ℕ
controls_said cpa = 0 ∷ 0 ∷ 0 ∷ 0 ∷ 0 ∷ 0 ∷ 0 ∷ 0 ∷ []
controls_said (cpace f) = listed f.accumulators ++ listed f.counters

abbrev pub cashback_at : Families → ℕ → Bool
cashback_at cpa j = false
cashback_at (cpace f) j = said_at yes_if_one false f.cashbacks j

-- with the tails of versions 04 and 05 and the syllabus, which stand beside the set-up
unfoldable pub rules_said : Setup → Dates → Families → ℕ → Rules
rules_said x d f syllabus =
    record {
      key = x.key;
      pin = x.pin;
      required = yes_if_one x.required;
      currencies =
          x.accumulators.one.currency ∷ x.accumulators.two.currency ∷ x.accumulators.three.currency ∷ x.accumulators.four.currency ∷ [];
      rates =
          record {
            entries = conversion_at x 0 ∷ conversion_at x 1 ∷ conversion_at x 2 ∷ conversion_at x 3 ∷ conversion_at x 4 ∷ [];
            up = yes_if_one syllabus;
          };
      profiles = profile_at x 0 ∷ profile_at x 1 ∷ profile_at x 2 ∷ profile_at x 3 ∷ [];
      cycles = cycles_said d;
      cyclic_rules = cyclic_rules_at d 0 ∷ cyclic_rules_at d 1 ∷ cyclic_rules_at d 2 ∷ cyclic_rules_at d 3 ∷ [];
      controls = controls_said f;
      cashbacks = cashback_at f 0 ∷ cashback_at f 1 ∷ cashback_at f 2 ∷ cashback_at f 3 ∷ [];
    }

unfoldable pub fresh_said : Setup → Dates → Fresh
fresh_said x d =
    record {
      values =
          record {
            accumulators =
                record { 0 = x.accumulators.one.value } ∷ record { 0 = x.accumulators.two.value } ∷ record { 0 = x.accumulators.three.value }
                ∷ record { 0 = x.accumulators.four.value }
                ∷ [];
            counters = x.counters.one ∷ x.counters.two ∷ x.counters.three ∷ x.counters.four ∷ [];
            cyclic = amounts_said d;
          };
      atc = x.atc;
      online = yes_if_one x.online;
      last = last_said d;
    }

-- What every reader of a base and its tails of versions 04 and 05 makes of them, where they say x, d and f: the base's length, the rules and the fresh
-- card in the bytes; and once they are accepted, what reading them answers, and the rules in the words that they were loaded into, whatever these held
-- before.
pub record Says (x : Setup) (d : Dates) (f : Families) (s t u : List ℕ) : Type 0 where
  pub size : length s ≡ 52 + 107 * length x.profiles + 7 * length x.conversions
  pub rules : (syllabus : ℕ) → rules_in s t u syllabus ≡ rules_said x d f syllabus
  pub fresh : fresh_in s t ≡ fresh_said x d
  pub read : (unnamed : ℕ) → is_accepted s t u unnamed ≡ true → read_setup s t u unnamed ≡ record { fresh = fresh_said x d; answer = Ok tt }
  pub loaded : (syllabus unnamed : ℕ) (words : List ℕ) → length words ≡ word_count → is_accepted s t u unnamed ≡ true
      → rules_of (words_after words s t u syllabus unnamed) ≡ rules_said x d f syllabus
