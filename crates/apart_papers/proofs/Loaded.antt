-- The words that a set-up is loaded into hold no start. Assumes nothing.
use mathlib.Core.Path.{◌≡◌, refl, ap, ap₂, ◌∙◌}
use mathlib.Core.Bool.{Bool, true, false, cond}
use mathlib.Core.List.{List, ◌++◌}
use Prim.Native.Nat.{ℕ, zero, suc, ◌+◌, ◌≤◌}
use native.Mathlib.Omega.{arith}
use lib.Dec.{ltb}
use lib.ListN.{length}
use Rattle.wire.specs.Wire.{byte, number}
use Rattle.layout.specs.Layout as layout
use Rattle.layout.specs.Layout.{profile_place, conversion_place}
use Rattle.load.specs.Load.{rows, onward, head_words, rate_words, rates_words, limit_in, rule_words, rules_words, profile_head_words, sent_words}
use Rattle.load.specs.Load.{profile_words, profiles_words, loaded}
use Rattle.apart_papers.proofs.Bytes.{Shared, late-number}

rows_same : (n : ℕ) (f g : ℕ → List ℕ) → ((j : ℕ) → f j ≡ g j) → rows n f ≡ rows n g
rows_same zero f g h = refl
rows_same (suc n) f g h = ap₂ (λ (a b : List ℕ). a ++ b) (rows_same n f g h) (h n)

onward-late : (step at j : ℕ) → 52 ≤ at → 52 ≤ onward step at j
onward-late step at zero h = h
onward-late step at (suc j) h = let i = onward-late step at j h in omega arith

module _ (s t : List ℕ) (same : Shared s t) (long : 52 ≤ length s) where
  abbrev late : (at : ℕ) → 52 ≤ at → byte s at ≡ byte t at
  late = same.late

  abbrev number-late : (at n : ℕ) → 52 ≤ at → number s at n ≡ number t at n
  number-late = late-number s t same

  head-same : head_words s ≡ head_words t
  unfolding head_words
  head-same =
      rw (
        same.early 0 (omega arith),
        same.early 1 (omega arith),
        same.early 2 (omega arith),
        same.currencies 0 (omega arith),
        same.currencies 1 (omega arith),
        same.currencies 2 (omega arith),
        same.currencies 3 (omega arith),
      )

  rate-same : (at : ℕ) → 52 ≤ at → rate_words s at ≡ rate_words t at
  unfolding rate_words
  rate-same at h =
      rw (
        number-late at 2 h,
        number-late (at + layout.to) 2 (omega arith),
        number-late (at + layout.digits) 2 (omega arith),
        late (at + layout.shift) (omega arith),
      )

  limit-same : (at width : ℕ) → 52 ≤ at → limit_in s at width ≡ limit_in t at width
  unfolding limit_in
  limit-same at width h = rw (late at h, number-late at 8 h)

  rule-same : (at width : ℕ) → 52 ≤ at → rule_words s at width ≡ rule_words t at width
  unfolding rule_words
  rule-same at width h =
      rw (late at h, limit-same (at + layout.lower) width (omega arith), limit-same (at + layout.upper width) width (omega arith))

  rules-same : (at width : ℕ) → 52 ≤ at → rules_words s at width ≡ rules_words t at width
  unfolding rules_words
  rules-same at width h =
      rows_same 4 (λ j. rule_words s (onward (layout.rule_length width) at j) width) (λ j. rule_words t (onward (layout.rule_length width) at j) width)
      (λ j. rule-same (onward (layout.rule_length width) at j) width (onward-late (layout.rule_length width) at j h))

  profile-head-same : (at : ℕ) → 52 ≤ at → profile_head_words s at ≡ profile_head_words t at
  unfolding profile_head_words
  profile-head-same at h =
      rw (
        late at h,
        number-late (at + layout.online) 4 (omega arith),
        number-late (at + layout.decline) 4 (omega arith),
        number-late (at + layout.default) 4 (omega arith),
        late (at + layout.maximum_on) (omega arith),
        number-late (at + layout.maximum_currency) 2 (omega arith),
        number-late (at + layout.maximum) 8 (omega arith),
      )

  sent-same : (at : ℕ) → 52 ≤ at → sent_words s at ≡ sent_words t at
  unfolding sent_words
  sent-same at h =
      rw (late (at + layout.accumulator_sent) (omega arith), late (at + layout.first_sent) (omega arith), late (at + layout.second_sent) (omega arith))

  profile-same : (at : ℕ) → 52 ≤ at → profile_words s at ≡ profile_words t at
  unfolding profile_words
  profile-same at h =
      rw (
        profile-head-same at h,
        rules-same (at + layout.accumulator_rules) layout.accumulator_limit (omega arith),
        rules-same (at + layout.counter_rules) layout.counter_limit (omega arith),
        sent-same at h,
      )

  -- places: behind the head, or the end
  place-late : (b : Bool) (at : ℕ) → 52 ≤ at → 52 ≤ cond b at (length s)
  place-late true at h = h
  place-late false at h = long

  profile-place : (i : ℕ) → profile_place s i ≡ profile_place t i
  profile-place i = rw (same.early 3 (omega arith), same.as_long)

  conversion-place : (i : ℕ) → conversion_place s i ≡ conversion_place t i
  conversion-place i = rw (same.early 3 (omega arith), same.early 4 (omega arith), same.as_long)

  profiles-same : profiles_words s ≡ profiles_words t
  unfolding profiles_words
  profiles-same =
      rows_same 4 (λ i. profile_words s (profile_place s i)) (λ i. profile_words t (profile_place t i))
      (λ i. profile-same (profile_place s i) (place-late (ltb i (byte s layout.profiles)) (layout.profile_from i) (omega arith))
      ∙ ap (profile_words t) (profile-place i))

  rates-same : rates_words s ≡ rates_words t
  unfolding rates_words
  rates-same =
      rows_same 5 (λ i. rate_words s (conversion_place s i)) (λ i. rate_words t (conversion_place t i))
      (λ i. rate-same (conversion_place s i) (place-late (ltb i (byte s layout.conversions)) (layout.conversion_from s i) (omega arith))
      ∙ ap (rate_words t) (conversion-place i))

  pub loaded-same : (c f : List ℕ) (syllabus : ℕ) → loaded s c f syllabus ≡ loaded t c f syllabus
  unfolding loaded
  loaded-same c f syllabus = rw (head-same, rates-same, profiles-same)
