-- What the rules say after an accepted set-up is what stands in its bytes at document 01's offsets. Assumes nothing.
use mathlib.Core.Path.{◌≡◌, refl, sym, ap, ◌∙◌}
use mathlib.Core.Bool.{Bool, true, false, cond, ◌&&◌}
use mathlib.Core.List.{List}
use Prim.Native.Nat.{ℕ, zero, suc, ◌+◌, ◌%◌, ◌^◌, ◌≤◌, ◌<◌}
use native.Mathlib.Nat.{add_assoc, mod-eq_of_lt, pow-suc}
use native.Mathlib.Omega.{arith}
use lib.Dec.{ltb, eqb}
use lib.ListN.{length, get_or-eq_default}
use Rattle.wire.specs.Wire.{byte, number}
use Rattle.wire.proofs.Numbers.{past}
use Rattle.wire.proofs.Pairs.{both}
use Rattle.money.specs.Money.{blank}
use Rattle.layout.specs.Layout.{profile_from, conversion_from, profile_place, conversion_place}
use Rattle.layout.specs.Layout as layout
use Rattle.rules.specs.Word.{word_count}
use Rattle.rules.specs.Rules.{Rules, two, four, five, eight, profile_of, rules_of, rate_at, cycle_at, cyclic_rule_at, blank_profile, blank_accumulator, blank_counter}
use Rattle.load.specs.Load.{head_words, rate_words, rates_words, profiles_words, loaded}
use Rattle.load.specs.Load.{limit_in, rule_words, rules_words, profile_head_words, sent_words, profile_words}
use Rattle.load.specs.Load.{cycle_words, cyclic_rule_words, cyclic_rules_words, cycles_words, family_words}
use Rattle.load_parts.proofs.Sizes.{loaded-size}
use Rattle.load_parts.proofs.Stores.{all}
use Rattle.ranges.specs.Ranges.{is_setup}
use Rattle.tails.specs.Tails.{are_cycles, is_family}
use Rattle.ranges.proofs.Accepted.{accepted}
use Rattle.refusal.specs.declared.Refusal.TheVariants.{BadSetup}
use Rattle.setup.specs.Setup.{rate_in, accumulator_in, counter_in, profile_in, cycle_in, cyclic_in, rules_in, fresh_in, no_card}
use Rattle.setup.specs.Setup.{is_accepted, read_setup, words_after}
use Rattle.std.specs.Prelude.{Err, Ok}

-- what a slice of bytes is
pub record Bytes (s : List ℕ) : Type 0 where
  pub below : (i : ℕ) → byte s i < 256

module _ (s : List ℕ) (bytes : Bytes s) where
  number-below : (at n : ℕ) → number s at n < 256 ^ n
  unfolding number
  number-below at zero = omega arith
  number-below at (suc n) =
      let r = number-below at n in
      let b = bytes.below (at + n) in
      rw (pow-suc 256 n) (omega arith)

  keep1 : (at : ℕ) → byte s at % 256 ≡ byte s at
  keep1 at = mod-eq_of_lt (bytes.below at)

  keep2 : (at : ℕ) → number s at 2 % 65536 ≡ number s at 2
  keep2 at = mod-eq_of_lt (number-below at 2)

  keep4 : (at : ℕ) → number s at 4 % 4294967296 ≡ number s at 4
  keep4 at = mod-eq_of_lt (number-below at 4)

  rate-there : (at : ℕ) → rate_at (rate_words s at) 0 ≡ rate_in s at
  unfolding rate_words rate_in
  rate-there at = simp (keep1, keep2)

  profile-there : (at : ℕ) → profile_of (profile_words s at) 0 ≡ profile_in s at
  unfolding profile_of profile_words profile_head_words rules_words rule_words limit_in sent_words profile_in accumulator_in counter_in
  profile-there at = simp (add_assoc, keep1, keep2, keep4)

  cycle-there : (at : ℕ) → cycle_at (cycle_words s at) 0 ≡ cycle_in s at
  unfolding cycle_words cycle_in
  cycle-there at = simp (keep1, keep2)

  cyclic-there : (at : ℕ) → cyclic_rule_at (cyclic_rule_words s at) 0 ≡ cyclic_in s at
  unfolding cyclic_rule_words cyclic_in
  cyclic-there at = refl

  -- past the end all is blank
  module _ (at : ℕ) (h : length s ≤ at) where
    no_byte : (k : ℕ) → byte s (at + k) ≡ 0
    no_byte k = get_or-eq_default s 0 (omega arith)

    first_byte : byte s at ≡ 0
    first_byte = get_or-eq_default s 0 h

    no_number : (k n : ℕ) → number s (at + k) n ≡ 0
    no_number k n = past s (at + k) n (omega arith)

    no_rate : rate_in s at ≡ blank
    unfolding rate_in
    no_rate = simp (past s at 2 h, no_number, no_byte)

    no_accumulator : accumulator_in s at ≡ blank_accumulator
    unfolding accumulator_in
    no_accumulator = simp (first_byte, no_number)

    no_counter : counter_in s at ≡ blank_counter
    unfolding counter_in
    no_counter = simp (first_byte, no_byte)

  no_profile_lem : (at : ℕ) → length s ≤ at → profile_in s at ≡ blank_profile
  unfolding profile_in
  no_profile_lem at h =
      let accumulator : (k : ℕ) → accumulator_in s (at + k) ≡ blank_accumulator = λ k. no_accumulator (at + k) (omega arith) in
      let counter : (k : ℕ) → counter_in s (at + k) ≡ blank_counter = λ k. no_counter (at + k) (omega arith) in
      simp (first_byte at h, no_byte at h, no_number at h, accumulator, counter)

  profile_or_blank : (i : ℕ) → profile_in s (profile_place s i) ≡ cond (ltb i (byte s layout.profiles)) (profile_in s (profile_from i)) blank_profile
  profile_or_blank i = by (ltb i (byte s layout.profiles)) where
    by : (there : Bool) → profile_in s (cond there (profile_from i) (length s)) ≡ cond there (profile_in s (profile_from i)) blank_profile
    by true = refl
    by false = no_profile_lem (length s) (omega arith)

  rate_or_blank : (i : ℕ) → rate_in s (conversion_place s i) ≡ cond (ltb i (byte s layout.conversions)) (rate_in s (conversion_from s i)) blank
  rate_or_blank i = by (ltb i (byte s layout.conversions)) where
    by : (there : Bool) → rate_in s (cond there (conversion_from s i) (length s)) ≡ cond there (rate_in s (conversion_from s i)) blank
    by true = refl
    by false = no_rate (length s) (omega arith)

-- the base, and the tails of versions 04 and 05
module _ (s t f : List ℕ) (base-bytes : Bytes s) (cycle-bytes : Bytes t) (family-bytes : Bytes f) where
  -- each part of the rules is read from its own words
  parts : ℕ → Rules
  parts syllabus =
      record {
        key = byte s layout.key_index % 256;
        pin = byte s layout.pin_tries % 16;
        required = eqb (byte s layout.required) 1;
        currencies = four (λ i. number s (layout.accumulator_from i) 2 % 65536);
        rates = record { entries = five (λ i. rate_at (rate_words s (conversion_place s i)) 0); up = eqb syllabus 1 };
        profiles = four (λ i. profile_of (profile_words s (profile_place s i)) 0);
        cycles = two (λ i. cycle_at (cycle_words t (layout.cycle_from i)) 0);
        cyclic_rules = four (λ j. two (λ i. cyclic_rule_at (cyclic_rule_words t (layout.cyclic_rule_from j i)) 0));
        controls = eight (λ i. byte f (layout.control_from i) % 256);
        cashbacks = four (λ j. eqb (byte f (layout.cashback_from j)) 1);
      }

  apart : (syllabus : ℕ) → rules_of (loaded s t f syllabus) ≡ parts syllabus
  unfolding parts rules_of loaded head_words rates_words rate_words profiles_words profile_of profile_words profile_head_words rules_words rule_words sent_words
      cycles_words cycle_words cyclic_rules_words cyclic_rule_words family_words
  apart syllabus = refl

  rules-there : (syllabus : ℕ) → byte s layout.pin_tries ≤ 15 → parts syllabus ≡ rules_in s t f syllabus
  unfolding parts rules_in
  rules-there syllabus pin =
      let keep : byte s layout.pin_tries % 16 ≡ byte s layout.pin_tries = mod-eq_of_lt (omega arith) in
      let profile = profile_or_blank s base-bytes in
      let rate = rate_or_blank s base-bytes in
      simp (
        keep1 s base-bytes,
        keep2 s base-bytes,
        keep,
        rate-there s base-bytes,
        profile-there s base-bytes,
        profile 0,
        profile 1,
        profile 2,
        profile 3,
        rate 0,
        rate 1,
        rate 2,
        rate 3,
        rate 4,
        cycle-there t cycle-bytes,
        cyclic-there t cycle-bytes,
        keep1 f family-bytes,
      )

  -- the words of an accepted set-up, whatever they held before
  pub faithful : (syllabus unnamed : ℕ) (words : List ℕ) → length words ≡ word_count → is_accepted s t f unnamed ≡ true
      → rules_of (words_after words s t f syllabus unnamed) ≡ rules_in s t f syllabus
  unfolding words_after
  faithful syllabus unnamed words size good =
      let (older, family) = both (is_setup s unnamed && are_cycles t) (is_family f) good in
      let (base, tail) = both (is_setup s unnamed) (are_cycles t) older in
      rw good (ap rules_of (all words (loaded s t f syllabus) (loaded-size s t f syllabus ∙ sym size)) ∙ apart syllabus
      ∙ rules-there syllabus (accepted s unnamed base).pin)

-- a refused set-up changes nothing lent, and leaves no card
pub untouched : (words s t f : List ℕ) (syllabus unnamed : ℕ) → is_accepted s t f unnamed ≡ false
    → (words_after words s t f syllabus unnamed ≡ words) × (read_setup s t f unnamed ≡ record { fresh = no_card; answer = Err BadSetup })
unfolding words_after read_setup
untouched words s t f syllabus unnamed bad = (simp bad, simp bad)

-- what an accepted set-up gives the card to start from
pub started : (s t f : List ℕ) (unnamed : ℕ) → is_accepted s t f unnamed ≡ true
    → read_setup s t f unnamed ≡ record { fresh = fresh_in s t; answer = Ok tt }
unfolding read_setup
started s t f unnamed good = simp good
