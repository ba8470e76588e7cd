-- What a set-up says (document 01, "The paper"), and the words that it is lent in: one word to a field.
use Rattle.std.specs.Prelude.{ℕ, ◌+◌, ◌*◌, ◌/◌, ◌%◌, Bool, false, cond, List, [], ◌∷◌, get_or, replicate, eqb, None, Option, Some}
use Rattle.money.specs.declared.Rate.{Rate}
use Rattle.money.specs.declared.Rates.{Rates}
use Rattle.calendar.specs.declared.Period.{Period}
use Rattle.calendar.specs.declared.Period.TheVariants.{Day, Week, Month}
use Rattle.rules.specs.declared.Place.{Place}
use Rattle.rules.specs.declared.Place.TheVariants.{One, Two, Three, Four}
use Rattle.rules.specs.declared.Masks.{Masks}
use Rattle.rules.specs.declared.MaximumAmount.{MaximumAmount}
use Rattle.rules.specs.declared.AccumulatorRule.{AccumulatorRule}
use Rattle.rules.specs.declared.CounterRule.{CounterRule}
use Rattle.rules.specs.declared.Cycle.{Cycle}
use Rattle.rules.specs.declared.CyclicRule.{CyclicRule}
use Rattle.rules.specs.declared.Sent.{Sent}
use Rattle.rules.specs.Word as word

pub record Profile : Type 0 where
  pub number : ℕ
  pub masks : Masks
  pub maximum : MaximumAmount
  pub accumulators : List AccumulatorRule
  pub counters : List CounterRule
  pub sent : Sent

pub record Rules : Type 0 where
  pub key : ℕ
  pub pin : ℕ
  pub required : Bool
  pub currencies : List ℕ
  pub rates : Rates
  pub profiles : List Profile
  -- the two cyclic accumulators, and for each of the four profiles their rules (request Five)
  pub cycles : List Cycle
  pub cyclic_rules : List (List CyclicRule)
  -- the controls of the eight slots, four accumulators and then four counters, and for each of the four profiles whether it checks cashback
  -- (request Thirteen); a CPA card's are 0 and off
  pub controls : List ℕ
  pub cashbacks : List Bool

-- four of a kind, for places 0 to 3
abbrev pub four : {A : Type 0} → (ℕ → A) → List A
four f = f 0 ∷ f 1 ∷ f 2 ∷ f 3 ∷ []

abbrev pub two : {A : Type 0} → (ℕ → A) → List A
two f = f 0 ∷ f 1 ∷ []

abbrev pub eight : {A : Type 0} → (ℕ → A) → List A
eight f = f 0 ∷ f 1 ∷ f 2 ∷ f 3 ∷ f 4 ∷ f 5 ∷ f 6 ∷ f 7 ∷ []

abbrev pub five : {A : Type 0} → (ℕ → A) → List A
five f = f 0 ∷ f 1 ∷ f 2 ∷ f 3 ∷ f 4 ∷ []

abbrev pub blank_accumulator : AccumulatorRule
blank_accumulator = record { lower = record { 0 = 0 }; upper = record { 0 = 0 }; active = false; allow = false; include = false }

abbrev pub blank_counter : CounterRule
blank_counter = record { lower = 0; upper = 0; active = false; allow = false; include = false; declines = false }

abbrev pub blank_cycle : Cycle
blank_cycle = record { currency = 0; period = Month; first = 0 }

abbrev pub blank_cyclic : CyclicRule
blank_cyclic = record { limit = record { 0 = 0 }; active = false; allow = false; include = false }

-- the words from a place on; switches: 1 active, 2 allow, 4 include this transaction, 8 include offline declines
abbrev pub rate_at : List ℕ → ℕ → Rate
rate_at w at =
    record {
      from = get_or w at 0 % 65536;
      to = get_or w (at + word.to) 0 % 65536;
      digits = get_or w (at + word.digits) 0 % 65536;
      shift = get_or w (at + word.shift) 0 % 256;
    }

abbrev pub accumulator_at : List ℕ → ℕ → AccumulatorRule
accumulator_at w at =
    record {
      lower = record { 0 = get_or w (at + word.lower) 0 };
      upper = record { 0 = get_or w (at + word.upper) 0 };
      active = eqb (get_or w at 0 % 2) 1;
      allow = eqb (get_or w at 0 / 2 % 2) 1;
      include = eqb (get_or w at 0 / 4 % 2) 1;
    }

abbrev pub counter_at : List ℕ → ℕ → CounterRule
counter_at w at =
    record {
      lower = get_or w (at + word.lower) 0 % 256;
      upper = get_or w (at + word.upper) 0 % 256;
      active = eqb (get_or w at 0 % 2) 1;
      allow = eqb (get_or w at 0 / 2 % 2) 1;
      include = eqb (get_or w at 0 / 4 % 2) 1;
      declines = eqb (get_or w at 0 / 8 % 2) 1;
    }

-- the kinds of cycle: 1 day, 2 week, 3 month
abbrev pub period_of : (kind : ℕ) → Period
period_of kind = cond (eqb kind 1) Day (cond (eqb kind 2) Week Month)

abbrev pub cycle_at : List ℕ → ℕ → Cycle
cycle_at w at =
    record {
      currency = get_or w at 0 % 65536;
      period = period_of (get_or w (at + word.cycle_kind) 0);
      first = get_or w (at + word.first_day) 0 % 256;
    }

abbrev pub cyclic_rule_at : List ℕ → ℕ → CyclicRule
cyclic_rule_at w at =
    record {
      limit = record { 0 = get_or w (at + word.cyclic_limit) 0 };
      active = eqb (get_or w at 0 % 2) 1;
      allow = eqb (get_or w at 0 / 2 % 2) 1;
      include = eqb (get_or w at 0 / 4 % 2) 1;
    }

abbrev pub masks_at : List ℕ → ℕ → Masks
masks_at w at =
    record {
      online = get_or w (at + word.online) 0 % 4294967296;
      decline = get_or w (at + word.decline) 0 % 4294967296;
      default = get_or w (at + word.default) 0 % 4294967296;
    }

abbrev pub maximum_at : List ℕ → ℕ → MaximumAmount
maximum_at w at =
    record {
      amount = record { 0 = get_or w (at + word.maximum) 0 };
      currency = get_or w (at + word.maximum_currency) 0 % 65536;
      on = eqb (get_or w (at + word.maximum_on) 0) 1;
    }

abbrev pub sent_at : List ℕ → ℕ → Sent
sent_at w at =
    record {
      accumulator = get_or w (at + word.accumulator_sent) 0 % 256;
      first = get_or w (at + word.first_sent) 0 % 256;
      second = get_or w (at + word.second_sent) 0 % 256;
    }

-- a profile
unfoldable pub profile_of : List ℕ → ℕ → Profile
profile_of w at =
    record {
      number = get_or w at 0 % 256;
      masks = masks_at w at;
      maximum = maximum_at w at;
      accumulators = four (λ i. accumulator_at w (at + word.accumulators + word.rule_length * i));
      counters = four (λ i. counter_at w (at + word.counters + word.rule_length * i));
      sent = sent_at w at;
    }

-- words to lend, before a set-up is loaded into them
abbrev pub blank_words : List ℕ
blank_words = replicate word.word_count 0

-- all the words
unfoldable pub rules_of : List ℕ → Rules
rules_of w =
    record {
      key = get_or w word.key_index 0 % 256;
      pin = get_or w word.pin_tries 0 % 16;
      required = eqb (get_or w word.required 0) 1;
      currencies = four (λ i. get_or w (word.currencies + i) 0 % 65536);
      rates = record { entries = five (λ i. rate_at w (word.rate_from i)); up = eqb (get_or w word.syllabus 0) 1 };
      profiles = four (λ i. profile_of w (word.profile_from i));
      cycles = two (λ i. cycle_at w (word.cycle_from i));
      cyclic_rules = four (λ j. two (λ i. cyclic_rule_at w (word.cyclic_rule_from j i)));
      controls = eight (λ i. get_or w (word.controls + i) 0 % 256);
      cashbacks = four (λ j. eqb (get_or w (word.cashbacks + j) 0) 1);
    }

abbrev pub blank_profile : Profile
blank_profile =
    record {
      number = 0;
      masks = record { online = 0; decline = 0; default = 0 };
      maximum = record { amount = record { 0 = 0 }; currency = 0; on = false };
      accumulators = four (λ i. blank_accumulator);
      counters = four (λ i. blank_counter);
      sent = record { accumulator = 0; first = 0; second = 0 };
    }

abbrev pub index_of : Place → ℕ
index_of One = 0
index_of Two = 1
index_of Three = 2
index_of Four = 3

abbrev pub profile_base : Place → ℕ
profile_base place = word.profile_from (index_of place)

abbrev pub profile_at : Rules → Place → Profile
profile_at rules place = get_or rules.profiles (index_of place) blank_profile

abbrev pub place_or : Rules → Place → ℕ → Option Place → Option Place
place_or rules place number elsewhere = cond (eqb (profile_at rules place).number number) (Some place) elsewhere

-- the place of the profile of a number; no profile has number 0
unfoldable pub find_profile : Rules → ℕ → Option Place
find_profile rules number =
    cond (eqb number 0) None
    (place_or rules One number (place_or rules Two number (place_or rules Three number (place_or rules Four number None))))

-- of accumulator or counter i + 1
abbrev pub currency_at : Rules → ℕ → ℕ
currency_at rules i = get_or rules.currencies i 0

abbrev pub accumulator_rule : Rules → Place → ℕ → AccumulatorRule
accumulator_rule rules place i = get_or (profile_at rules place).accumulators i blank_accumulator

abbrev pub counter_rule : Rules → Place → ℕ → CounterRule
counter_rule rules place i = get_or (profile_at rules place).counters i blank_counter

-- cyclic accumulator i + 1, and its rule
abbrev pub cycle_of : Rules → ℕ → Cycle
cycle_of rules i = get_or rules.cycles i blank_cycle

abbrev pub cyclic_rule : Rules → Place → ℕ → CyclicRule
cyclic_rule rules place i = get_or (get_or rules.cyclic_rules (index_of place) []) i blank_cyclic

-- the control of slot i + 1, and whether a profile checks cashback
abbrev pub control_at : Rules → ℕ → ℕ
control_at rules i = get_or rules.controls i 0

abbrev pub checks_cashback : Rules → Place → Bool
checks_cashback rules place = get_or rules.cashbacks (index_of place) false
