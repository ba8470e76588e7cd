-- A spelled set-up is accepted exactly if its fields are in their ranges; its number is then 0, and else 1. Assumes nothing.
use mathlib.Core.Path.{◌≡◌, refl, sym, ◌∙◌}
use mathlib.Core.Bool.{Bool, true, false, cond, ◌&&◌}
use mathlib.Core.List.{List}
use mathlib.Core.Logic.{◌↔◌}
use Prim.Native.Nat.{ℕ, ◌+◌, ◌*◌, ◌<◌}
use native.Mathlib.Omega.{arith}
use lib.ListN.{length, get_or}
use Rattle.wire.specs.Wire.{byte, number}
use Rattle.wire.proofs.Pairs.{both}
use Rattle.ranges.specs.Ranges.{is_setup}
use Rattle.tails.specs.Tails.{are_cycles, is_family}
use Rattle.ranges.proofs.Accepted.{Currency, AccumulatorRanges, AccumulatorRuleRanges, ProfileRanges, ConversionRanges, Accepted, accepted, complete}
use Rattle.tails.proofs.Accepted.{CyclesAccepted, cycles-accepted, cycles_complete, FamilyAccepted, family-accepted, family_complete}
use Rattle.setup.specs.Setup.{is_accepted, read_setup, setup_number}
use Rattle.rows.specs.Rows.{Fits, Four, Limits, Profile, Conversion, Setup, listed, setup_row, body}
use Rattle.rows.specs.InRange.{ThreeDigits, AccumulatorRange, AccumulatorLimits, CounterLimits, ProfileRange, ConversionRange, SameNumber, SamePair}
use Rattle.rows.specs.InRange.{InRange}
use Rattle.rows.specs.Offsets.{nth, AccumulatorOffsets, ProfileOffsets, ConversionOffsets, Offsets}
use Rattle.rows.proofs.Places.{at_each, each_at, at_no_two, no_two_at}
use Rattle.rows.proofs.Placed.{body-size, in_place}

-- the same three digits
pub digits-there : {code there : ℕ} → there ≡ code → ThreeDigits code → Currency there
digits-there e d =
    record {
      hundreds = d.hundreds;
      tens = d.tens;
      ones = d.ones;
      hundreds-digit = d.hundreds-digit;
      tens-digit = d.tens-digit;
      ones-digit = d.ones-digit;
      digits = e ∙ d.digits;
    }

pub digits_back : {code there : ℕ} → there ≡ code → Currency there → ThreeDigits code
digits_back e d =
    record {
      hundreds = d.hundreds;
      tens = d.tens;
      ones = d.ones;
      hundreds-digit = d.hundreds-digit;
      tens-digit = d.tens-digit;
      ones-digit = d.ones-digit;
      digits = sym e ∙ d.digits;
    }

-- what stands where there is no entry
no_limits : Limits
no_limits = record { switches = 0; lower = 0; upper = 0 }

no_four : Four Limits
no_four = record { one = no_limits; two = no_limits; three = no_limits; four = no_limits }

no_profile : Profile
no_profile =
    record {
      number = 0;
      online = 0;
      decline = 0;
      default = 0;
      maximum-on = 0;
      maximum-currency = 0;
      maximum = 0;
      accumulators = no_four;
      counters = no_four;
      accumulator-sent = 0;
      first-sent = 0;
      second-sent = 0;
    }

no_conversion : Conversion
no_conversion = record { from = 0; to = 0; digits = 0; shift = 0 }

module _ (s : List ℕ) where
  limits_range : (at : ℕ) (l : Limits) → AccumulatorOffsets s at l → AccumulatorLimits l ↔ AccumulatorRuleRanges s at
  limits_range at l o = (
    λ r. record { switches = rw o.switches r.switches; lower = rw o.lower r.lower; upper = rw o.upper r.upper },
    λ r. record { switches = rw o.switches at r.switches; lower = rw o.lower at r.lower; upper = rw o.upper at r.upper },
  )

  conversion_range : (at : ℕ) (c : Conversion) → ConversionOffsets s at c → ConversionRange c ↔ ConversionRanges s at
  conversion_range at c o = (
    λ r.
        record {
          from = digits-there o.from r.from;
          to = digits-there o.to r.to;
          other = λ e. r.other (sym o.from ∙ e ∙ o.to);
          digits-least = rw o.digits r.digits-least;
          digits-most = rw o.digits r.digits-most;
          shift = rw o.shift r.shift;
        },
    λ r.
        record {
          from = digits_back o.from r.from;
          to = digits_back o.to r.to;
          other = λ e. r.other (o.from ∙ e ∙ sym o.to);
          digits-least = rw o.digits at r.digits-least;
          digits-most = rw o.digits at r.digits-most;
          shift = rw o.shift at r.shift;
        },
  )

  profile_range : (unnamed at : ℕ) (p : Profile) → ProfileOffsets s at p → ProfileRange unnamed p ↔ ProfileRanges s unnamed at
  profile_range unnamed at p o =
      let rule : (j : ℕ) → j < 4 → AccumulatorLimits (nth p.accumulators j) ↔ AccumulatorRuleRanges s (at + (24 + 17 * j)) =
      λ j l. limits_range (at + (24 + 17 * j)) (nth p.accumulators j) (o.accumulators j l) in
      let rs = listed p.accumulators in
      let cs = listed p.counters in (
        λ r.
            record {
              number-least = rw o.number_is r.number-least;
              number-most = rw o.number_is r.number-most;
              online = rw o.online r.online;
              decline = rw o.decline r.decline;
              default = rw o.default r.default;
              maximum-on = rw o.maximum-on r.maximum-on;
              maximum-currency = digits-there o.maximum-currency r.maximum-currency;
              maximum = rw o.maximum r.maximum;
              accumulators = λ j l. (rule j l).0 (at_each p.accumulators.one AccumulatorLimits rs r.accumulators j l);
              counters = λ j l. rw (o.counters j l).switches (at_each p.counters.one CounterLimits cs r.counters j l);
              accumulator-sent = rw o.accumulator-sent r.accumulator-sent;
              first-sent = rw o.first-sent r.first-sent;
              second-sent = rw o.second-sent r.second-sent;
            },
        λ r.
            record {
              number-least = rw o.number_is at r.number-least;
              number-most = rw o.number_is at r.number-most;
              online = rw o.online at r.online;
              decline = rw o.decline at r.decline;
              default = rw o.default at r.default;
              maximum-on = rw o.maximum-on at r.maximum-on;
              maximum-currency = digits_back o.maximum-currency r.maximum-currency;
              maximum = rw o.maximum at r.maximum;
              accumulators = each_at p.accumulators.one AccumulatorLimits rs (λ j l. (rule j l).1 (r.accumulators j l));
              counters = each_at p.counters.one CounterLimits cs (λ j l. rw (o.counters j l).switches at (r.counters j l));
              accumulator-sent = rw o.accumulator-sent at r.accumulator-sent;
              first-sent = rw o.first-sent at r.first-sent;
              second-sent = rw o.second-sent at r.second-sent;
            },
      )

  module _ (x : Setup) (unnamed : ℕ) (o : Offsets s x) where
    abbrev profile : ℕ → Profile
    profile i = get_or x.profiles i no_profile

    abbrev conversion : ℕ → Conversion
    conversion i = get_or x.conversions i no_conversion

    abbrev after : ℕ
    after = 52 + 107 * length x.profiles

    accumulator_range : (i : ℕ) → i < 4 → AccumulatorRange (nth x.accumulators i) ↔ AccumulatorRanges s (8 + 10 * i)
    accumulator_range i l = (
      λ r. record { currency = digits-there (o.currencies i l) r.currency; value = rw (o.values i l) r.value },
      λ r. record { currency = digits_back (o.currencies i l) r.currency; value = rw (o.values i l) at r.value },
    )

    profile-there : (i : ℕ) → i < length x.profiles → ProfileOffsets s (52 + 107 * i) (profile i)
    profile-there i l = o.profiles i l no_profile

    conversion-there : (i : ℕ) → i < length x.conversions → ConversionOffsets s (after + 7 * i) (conversion i)
    conversion-there i l = o.conversions i l no_conversion

    number_alike : (i j : ℕ) → i < length x.profiles → j < length x.profiles
        → SameNumber (profile i) (profile j) ↔ (byte s (52 + 107 * i) ≡ byte s (52 + 107 * j))
    number_alike i j l m =
        let a = (profile-there i l).number_is in
        let b = (profile-there j m).number_is in
        (λ e. a ∙ e ∙ sym b, λ e. sym a ∙ e ∙ b)

    abbrev SameThere : ℕ → ℕ → Type 0
    SameThere m n = (number s m 2 ≡ number s n 2) × (number s (m + 2) 2 ≡ number s (n + 2) 2)

    pair_alike : (i j : ℕ) → i < length x.conversions → j < length x.conversions
        → SamePair (conversion i) (conversion j) ↔ SameThere (after + 7 * i) (after + 7 * j)
    pair_alike i j l m =
        let a = conversion-there i l in
        let b = conversion-there j m in
        (λ (f, t). (a.from ∙ f ∙ sym b.from, a.to ∙ t ∙ sym b.to), λ (f, t). (sym a.from ∙ f ∙ b.from, sym a.to ∙ t ∙ b.to))

    -- fields in range, seen in the bytes
    there : length s ≡ after + 7 * length x.conversions → InRange x unnamed → Accepted s unnamed
    there size r =
        let profiles = at_each no_profile (ProfileRange unnamed) x.profiles r.profiles in
        let numbers = at_no_two no_profile SameNumber x.profiles r.numbers in
        let conversions = at_each no_conversion ConversionRange x.conversions r.conversions in
        let pairs = at_no_two no_conversion SamePair x.conversions r.pairs in
        record {
          size = rw (o.p, o.c) size;
          pin = rw o.pin r.pin;
          required = rw o.required r.required;
          profiles-least = rw o.p r.profiles-least;
          profiles-most = rw o.p r.profiles-most;
          conversions-most = rw o.c r.conversions-most;
          online = rw o.online r.online;
          accumulators =
              λ i l. (accumulator_range i l).0 (at_each x.accumulators.one AccumulatorRange (listed x.accumulators) r.accumulators i l);
          profiles = λ i l. let m = rw o.p at l in (profile_range unnamed (52 + 107 * i) (profile i) (profile-there i m)).0 (profiles i m);
          numbers =
              λ i j l m e.
              let n = rw o.p at m in
              numbers i j l n ((number_alike i j (omega arith) n).1 e);
          conversions =
              λ i l.
              let m = rw o.c at l in
              rw o.p ((conversion_range (after + 7 * i) (conversion i) (conversion-there i m)).0 (conversions i m));
          pairs =
              λ i j l m f t.
              let n = rw o.c at m in
              pairs i j l n ((pair_alike i j (omega arith) n).1 (rw o.p at f, rw o.p at t));
        }

    -- and back
    back : Accepted s unnamed → InRange x unnamed
    back a =
        record {
          pin = rw o.pin at a.pin;
          required = rw o.required at a.required;
          profiles-least = rw o.p at a.profiles-least;
          profiles-most = rw o.p at a.profiles-most;
          conversions-most = rw o.c at a.conversions-most;
          online = rw o.online at a.online;
          accumulators =
              each_at x.accumulators.one AccumulatorRange (listed x.accumulators) (λ i l. (accumulator_range i l).1 (a.accumulators i l));
          profiles =
              each_at no_profile (ProfileRange unnamed) x.profiles
              (λ i l. (profile_range unnamed (52 + 107 * i) (profile i) (profile-there i l)).1 (a.profiles i (rw o.p l)));
          numbers =
              no_two_at no_profile SameNumber x.profiles
              (λ i j l m e. a.numbers i j l (rw o.p m) ((number_alike i j (omega arith) m).0 e));
          conversions =
              each_at no_conversion ConversionRange x.conversions
              (λ i l. (conversion_range (after + 7 * i) (conversion i) (conversion-there i l)).1 (rw o.p at (a.conversions i (rw o.c l))));
          pairs =
              no_two_at no_conversion SamePair x.conversions
              (λ i j l m e.
              let (f, t) = (pair_alike i j (omega arith) m).0 e in
              a.pairs i j l (rw o.c m) (rw o.p f) (rw o.p t));
        }

-- THE STATEMENT: accepted exactly if every field is in its range
pub accepted_in_range : (x : Setup) → Fits (setup_row x) → (unnamed : ℕ) → (is_setup (body x) unnamed ≡ true) ↔ InRange x unnamed
accepted_in_range x fits unnamed =
    let s = body x in
    let o = in_place x fits in
    (λ good. back s x unnamed o (accepted s unnamed good), λ r. complete s unnamed (there s x unnamed o (body-size x) r))

-- ---- the number of the answer

module _ (s t f : List ℕ) (unnamed : ℕ) where
  -- base and tails in their ranges
  abbrev pub AllAccepted : Type 0
  AllAccepted = Accepted s unnamed × CyclesAccepted t × FamilyAccepted f

  pub three : is_accepted s t f unnamed ≡ true → (is_setup s unnamed ≡ true) × (are_cycles t ≡ true) × (is_family f ≡ true)
  three e =
      let (older, family) = both (is_setup s unnamed && are_cycles t) (is_family f) e in
      let (base, cycles) = both (is_setup s unnamed) (are_cycles t) older in
      (base, cycles, family)

  pub all-accepted : (is_accepted s t f unnamed ≡ true) ↔ AllAccepted
  all-accepted = (
    λ e. let (base, cycles, family) = three e in (accepted s unnamed base, cycles-accepted t cycles, family-accepted f family),
    λ (base, cycles, family). rw (complete s unnamed base, cycles_complete t cycles, family_complete f family),
  )

  abbrev numbered : ℕ
  numbered = setup_number (read_setup s t f unnamed).answer

  number_by : (good : Bool) → is_accepted s t f unnamed ≡ good → numbered ≡ cond good 0 1
  unfolding read_setup
  number_by true e = rw e refl
  number_by false e = rw e refl

  pub setup-taken : (numbered ≡ 0) ↔ AllAccepted
  setup-taken = (λ z. all-accepted.0 (by (is_accepted s t f unnamed) refl z), λ a. number_by true (all-accepted.1 a)) where
    by : (good : Bool) → is_accepted s t f unnamed ≡ good → numbered ≡ 0 → is_accepted s t f unnamed ≡ true
    by true e z = e
    by false e z = let n = number_by false e in absurd (omega arith)

  pub setup-refused : (numbered ≡ 1) ↔ (AllAccepted → ⊥)
  setup-refused = (λ z a. let n = number_by true (all-accepted.1 a) in omega arith, λ g. by (is_accepted s t f unnamed) refl g) where
    by : (good : Bool) → is_accepted s t f unnamed ≡ good → (AllAccepted → ⊥) → numbered ≡ 1
    by true e g = absurd (g (all-accepted.0 e))
    by false e g = number_by false e
