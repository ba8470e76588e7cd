-- What is accepted is exactly document 01's list of ranges, field by field over the bytes. Assumes nothing.
use mathlib.Core.Path.{◌≡◌}
use mathlib.Core.Bool.{true}
use mathlib.Core.List.{List}
use Prim.Native.Nat.{ℕ, ◌+◌, ◌*◌, ◌/◌, ◌%◌, ◌≤◌, ◌<◌}
use native.Mathlib.Omega.{arith}
use lib.ListN.{length, get_or-eq_default}
use Rattle.wire.specs.Wire.{byte, number, is_currency}
use Rattle.wire.proofs.Numbers.{past, split}
use Rattle.money.specs.Money.{max}
use Rattle.layout.specs.Layout.{profile_from, conversion_from, base_length}
use Rattle.layout.specs.Layout as layout
use Rattle.ranges.specs.Ranges.{has_length, is_head, is_accumulator, are_accumulators, is_setup}
use Rattle.ranges.specs.Ranges.{are_masks, is_maximum_amount, is_accumulator_rule, are_accumulator_rules, are_counter_rules, are_sent}
use Rattle.ranges.specs.Ranges.{is_profile, is_profile_or_absent, are_profiles, is_conversion, is_conversion_or_absent, are_conversions}
use Rattle.ranges.specs.Ranges.{profile_number, are_numbers_apart, conversion_pair, are_pairs_apart}
use Rattle.ranges.proofs.Decides.{Decides, ◌and◌, ◌with◌, at_most, below, equal, denied, each, itself, stated, if_there, different}

-- three decimal digits in two bytes
pub record Currency (code : ℕ) : Type 0 where
  pub hundreds : ℕ
  pub tens : ℕ
  pub ones : ℕ
  pub hundreds-digit : hundreds ≤ 9
  pub tens-digit : tens ≤ 9
  pub ones-digit : ones ≤ 9
  pub digits : code ≡ hundreds * 256 + tens * 16 + ones

-- an accumulator of the head, at its place
pub record AccumulatorRanges (s : List ℕ) (at : ℕ) : Type 0 where
  pub currency : Currency (number s at 2)
  pub value : number s (at + layout.value) 8 ≤ max

-- an accumulator's rule in a profile, at its place
pub record AccumulatorRuleRanges (s : List ℕ) (at : ℕ) : Type 0 where
  pub switches : byte s at ≤ 7
  pub lower : number s (at + layout.lower) 8 ≤ max
  pub upper : number s (at + layout.upper layout.accumulator_limit) 8 ≤ max

-- a profile, at its place; no mask has a bit from the unnamed one on
pub record ProfileRanges (s : List ℕ) (unnamed at : ℕ) : Type 0 where
  pub number-least : 1 ≤ byte s at
  pub number-most : byte s at ≤ 124
  pub online : number s (at + layout.online) 4 < unnamed
  pub decline : number s (at + layout.decline) 4 < unnamed
  pub default : number s (at + layout.default) 4 < unnamed
  pub maximum-on : byte s (at + layout.maximum_on) ≤ 1
  pub maximum-currency : Currency (number s (at + layout.maximum_currency) 2)
  pub maximum : number s (at + layout.maximum) 8 ≤ max
  pub accumulators : (j : ℕ) → j < 4 → AccumulatorRuleRanges s (at + layout.accumulator_rule_from j)
  pub counters : (j : ℕ) → j < 4 → byte s (at + layout.counter_rule_from j) ≤ 15
  pub accumulator-sent : byte s (at + layout.accumulator_sent) ≤ 4
  pub first-sent : byte s (at + layout.first_sent) ≤ 4
  pub second-sent : byte s (at + layout.second_sent) ≤ 4

-- a conversion, at its place
pub record ConversionRanges (s : List ℕ) (at : ℕ) : Type 0 where
  pub from : Currency (number s at 2)
  pub to : Currency (number s (at + layout.to) 2)
  pub other : number s at 2 ≡ number s (at + layout.to) 2 → ⊥
  pub digits-least : 1 ≤ number s (at + layout.digits) 2
  pub digits-most : number s (at + layout.digits) 2 ≤ 9999
  pub shift : byte s (at + layout.shift) ≤ 12

-- profiles are numbered all different
abbrev pub NumbersDiffer : List ℕ → Type 0
NumbersDiffer s = (i j : ℕ) → i < j → j < byte s layout.profiles → byte s (profile_from i) ≡ byte s (profile_from j) → ⊥

-- no pair of from and to is there twice
abbrev pub PairsDiffer : List ℕ → Type 0
PairsDiffer s =
    (i j : ℕ) → i < j → j < byte s layout.conversions → number s (conversion_from s i) 2 ≡ number s (conversion_from s j) 2
    → number s (conversion_from s i + layout.to) 2 ≡ number s (conversion_from s j + layout.to) 2
    → ⊥

pub record Accepted (s : List ℕ) (unnamed : ℕ) : Type 0 where
  pub size : length s ≡ base_length s
  pub pin : byte s layout.pin_tries ≤ 15
  pub required : byte s layout.required ≤ 1
  pub profiles-least : 1 ≤ byte s layout.profiles
  pub profiles-most : byte s layout.profiles ≤ 4
  pub conversions-most : byte s layout.conversions ≤ 5
  pub online : byte s layout.online_next ≤ 1
  pub accumulators : (i : ℕ) → i < 4 → AccumulatorRanges s (layout.accumulator_from i)
  pub profiles : (i : ℕ) → i < byte s layout.profiles → ProfileRanges s unnamed (profile_from i)
  pub numbers : NumbersDiffer s
  pub conversions : (i : ℕ) → i < byte s layout.conversions → ConversionRanges s (conversion_from s i)
  pub pairs : PairsDiffer s

pub currency : (code : ℕ) → Decides (is_currency code) (Currency code)
currency code =
    stated (at_most (code / 256) 9 and at_most (code / 16 % 16) 9 and at_most (code % 16) 9)
    (λ ((h, t), o).
    record {
      hundreds = code / 256;
      tens = code / 16 % 16;
      ones = code % 16;
      hundreds-digit = h;
      tens-digit = t;
      ones-digit = o;
      digits = omega arith;
    })
    (λ c. ((omega arith, omega arith), omega arith))

module _ (s : List ℕ) (unnamed : ℕ) where
  accumulator : (at : ℕ) → Decides (is_accumulator s at) (AccumulatorRanges s at)
  unfolding is_accumulator
  accumulator at = stated (currency _ and at_most _ _) (λ (c, v). record { currency = c; value = v }) (λ a. a.currency with a.value)

  accumulator-rule : (at : ℕ) → Decides (is_accumulator_rule s at) (AccumulatorRuleRanges s at)
  unfolding is_accumulator_rule
  accumulator-rule at =
      stated (at_most _ _ and at_most _ _ and at_most _ _) (λ ((w, l), u). record { switches = w; lower = l; upper = u })
      (λ a. a.switches with a.lower with a.upper)

  profile : (at : ℕ) → Decides (is_profile s unnamed at) (ProfileRanges s unnamed at)
  unfolding is_profile are_masks is_maximum_amount are_accumulator_rules are_counter_rules are_sent
  profile at =
      stated
      (at_most _ _ and at_most _ _ and (below _ _ and below _ _ and below _ _) and (at_most _ _ and currency _ and at_most _ _)
      and each 4 (λ j. accumulator-rule (at + layout.accumulator_rule_from j))
      and each 4 (λ j. at_most (byte s (at + layout.counter_rule_from j)) 15)
      and (at_most _ _ and at_most _ _ and at_most _ _))
      (λ ((((((least, most), ((online, decline), default)), ((on, code), amount)), accumulators), counters), ((accumulator, first), second)).
      record {
        number-least = least;
        number-most = most;
        online = online;
        decline = decline;
        default = default;
        maximum-on = on;
        maximum-currency = code;
        maximum = amount;
        accumulators = accumulators;
        counters = counters;
        accumulator-sent = accumulator;
        first-sent = first;
        second-sent = second;
      })
      (λ p.
      p.number-least with p.number-most with (p.online with p.decline with p.default)
      with (p.maximum-on with p.maximum-currency with p.maximum)
      with p.accumulators
      with p.counters
      with (p.accumulator-sent with p.first-sent with p.second-sent))

  conversion : (at : ℕ) → Decides (is_conversion s at) (ConversionRanges s at)
  unfolding is_conversion
  conversion at =
      stated (currency _ and currency _ and denied (equal _ _) and at_most _ _ and at_most _ _ and at_most _ _)
      (λ (((((from, to), other), least), most), shift).
      record { from = from; to = to; other = other; digits-least = least; digits-most = most; shift = shift })
      (λ c. c.from with c.to with c.other with c.digits-least with c.digits-most with c.shift)

  profile_or_absent : (i : ℕ) → Decides (is_profile_or_absent s unnamed i) (i < byte s layout.profiles → ProfileRanges s unnamed (profile_from i))
  unfolding is_profile_or_absent
  profile_or_absent = if_there (byte s layout.profiles) profile_from (length s) profile

  conversion_or_absent : (i : ℕ) → Decides (is_conversion_or_absent s i) (i < byte s layout.conversions → ConversionRanges s (conversion_from s i))
  unfolding is_conversion_or_absent
  conversion_or_absent = if_there (byte s layout.conversions) (conversion_from s) (length s) conversion

  numbers_apart : byte s layout.profiles ≤ 4 → ((i : ℕ) → i < byte s layout.profiles → ProfileRanges s unnamed (profile_from i))
      → Decides (are_numbers_apart s) (NumbersDiffer s)
  unfolding are_numbers_apart profile_number
  numbers_apart few profiles =
      different (byte s layout.profiles) profile_from (length s) 4 (byte s) few (get_or-eq_default s 0 (omega arith))
      (λ i l z. omega (arith, (profiles i l).number-least))

  -- from and to side by side
  joined : (at : ℕ) → number s at 4 ≡ number s at 2 * 65536 + number s (at + layout.to) 2
  joined at = split s at 2 2

  pairs-apart : byte s layout.conversions ≤ 5 → ((i : ℕ) → i < byte s layout.conversions → ConversionRanges s (conversion_from s i))
      → Decides (are_pairs_apart s) (PairsDiffer s)
  unfolding are_pairs_apart conversion_pair
  pairs-apart few conversions =
      stated
      (different (byte s layout.conversions) (conversion_from s) (length s) 5 (λ at. number s at 4) few (past s (length s) 4 (omega arith))
      (λ i l z. let a = joined (conversion_from s i) in (conversions i l).other (omega arith)))
      (λ f i j l m e g.
      let a = joined (conversion_from s i) in
      let b = joined (conversion_from s j) in
      f i j l m (omega arith))
      (λ f i j l m e.
      let a = joined (conversion_from s i) in
      let b = joined (conversion_from s j) in
      let x = (conversions i (omega arith)).to in
      let y = (conversions j m).to in
      f i j l m (omega arith) (omega arith))

  decided : Decides (is_setup s unnamed) (Accepted s unnamed)
  unfolding is_setup has_length is_head are_accumulators are_profiles are_conversions
  decided =
      stated
      (equal _ _ and (at_most _ _ and at_most _ _ and at_most _ _ and at_most _ _ and at_most _ _ and at_most _ _)
      and each 4 (λ i. accumulator (layout.accumulator_from i))
      and each 4 profile_or_absent
      and itself (are_numbers_apart s)
      and each 5 conversion_or_absent
      and itself (are_pairs_apart s))
      (λ ((((((size, (((((pin, required), least), most), conversions-most), online)), accumulators), profiles), numbers), conversions), pairs).
      let there : (i : ℕ) → i < byte s layout.profiles → ProfileRanges s unnamed (profile_from i) = λ i l. profiles i (omega arith) l in
      let listed : (i : ℕ) → i < byte s layout.conversions → ConversionRanges s (conversion_from s i) = λ i l. conversions i (omega arith) l in
      record {
        size = size;
        pin = pin;
        required = required;
        profiles-least = least;
        profiles-most = most;
        conversions-most = conversions-most;
        online = online;
        accumulators = accumulators;
        profiles = there;
        numbers = (numbers_apart most there).0 numbers;
        conversions = listed;
        pairs = (pairs-apart conversions-most listed).0 pairs;
      })
      (λ a.
      a.size with (a.pin with a.required with a.profiles-least with a.profiles-most with a.conversions-most with a.online)
      with a.accumulators
      with (λ i _. a.profiles i)
      with (numbers_apart a.profiles-most a.profiles).1 a.numbers
      with (λ i _. a.conversions i)
      with (pairs-apart a.conversions-most a.conversions).1 a.pairs)

  pub accepted : is_setup s unnamed ≡ true → Accepted s unnamed
  accepted = decided.0

  pub complete : Accepted s unnamed → is_setup s unnamed ≡ true
  complete = decided.1
