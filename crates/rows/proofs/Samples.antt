-- The statements evaluated at set-ups written out, each false by computation of a card that is wrong in its way. Assumes nothing.
use mathlib.Core.Path.{◌≡◌, refl}
use mathlib.Core.Bool.{Bool, true, false, not, ◌&&◌}
use lib.Dec.{T, eqb}
use mathlib.Core.List.{List, [], ◌∷◌, ◌++◌}
use Prim.Native.Nat.{ℕ, ◌+◌, ◌^◌}
use lib.ListN.{get_or, take}
use Rattle.calendar.specs.Calendar.{date_at, is_day, has_day}
use Rattle.rules.specs.Rules.{blank_profile, blank_counter, blank_cyclic}
use Rattle.wire.specs.Wire.{number}
use Rattle.ranges.specs.Ranges.{is_setup, has_length, is_head, are_accumulators, is_accumulator, are_profiles, is_profile_or_absent, is_profile}
use Rattle.ranges.specs.Ranges.{are_masks, is_maximum_amount, are_accumulator_rules, is_accumulator_rule, are_counter_rules, are_sent}
use Rattle.ranges.specs.Ranges.{are_numbers_apart, profile_number, are_conversions, is_conversion_or_absent, is_conversion, conversion_pair, are_pairs_apart}
use Rattle.tails.specs.Tails.{are_cycles, is_cycle, are_cyclic_rules, is_cyclic_rule, is_family}
use Rattle.setup.specs.Setup.{rate_in, accumulator_in, counter_in, profile_in, cycle_in, cyclic_in, rules_in, fresh_in, read_setup, setup_number}
use Rattle.log_tail.specs.LogTail.{entry_in, reaches_past, are_flags, are_sources, are_within, is_in_range, is_within, judged, judged_number}
use Rattle.shape.specs.Shape.{base_tail, entries_end, selection_tail, syllabus_tail, dating_tail, family_tail, scripting_tail, logging_tail, tails_of, shape_of, shape_number}
use Rattle.rows.specs.Rows.{Four, Accumulator, Limits, Profile, Conversion, Setup, written, spelled, head_row, profile_row, conversion_row, setup_row, body}
use Rattle.rows.specs.Rows.{Two, Cyclic, CyclicLimit, Dates, undated, dated, cyclic_limits_row, cycles_row, cycles_bytes}
use Rattle.rows.specs.Rows.{Families, cpa, cpace, controls_row, controls_bytes}
use Rattle.rows.specs.Said.{profile_said, conversion_said, rules_said, fresh_said}
use Rattle.rows.specs.Tails.{off, LogEntry, unlogged, logged, Tail, first, third, seventh, tail_bytes}
use Rattle.rows.specs.Whole.{read_whole, log_whole}
use Rattle.rows.proofs.Witness.{profile as printed_profile, printed, printed_bytes, spending, daily, guarding, dual, scripted, entry, ring, logging, of_two, past}
use Rattle.std.specs.Prelude.{Err, Ok, Result}
use Rattle.refusal.specs.declared.Refusal.{Refusal}
use Rattle.shape.specs.declared.Shape.{Shape}

-- ---- a set-up in which each field has a value of its own

abbrev held : ℕ → Accumulator
held n = record { currency = n; value = n + 1 }

abbrev limits : ℕ → Limits
limits n = record { switches = n; lower = n + 1; upper = n + 2 }

abbrev fours : {A : Type 0} → (ℕ → A) → (from step : ℕ) → Four A
fours f n k = record { one = f n; two = f (n + k); three = f (n + k + k); four = f (n + k + k + k) }

abbrev profile : ℕ → Profile
profile n =
    record {
      number = n;
      online = n + 1;
      decline = n + 2;
      default = n + 3;
      maximum-on = 1;
      maximum-currency = n + 5;
      maximum = n + 6;
      accumulators = fours limits (n + 7) 3;
      counters = fours limits (n + 19) 3;
      accumulator-sent = n + 31;
      first-sent = n + 32;
      second-sent = n + 33;
    }

abbrev conversion : ℕ → Conversion
conversion n = record { from = n; to = n + 1; digits = n + 2; shift = n + 3 }

unfoldable pub counted : Setup
counted =
    record {
      key = 9;
      pin = 10;
      required = 1;
      atc = 11;
      online = 0;
      accumulators = fours held 12 2;
      counters = fours (λ n. n) 20 1;
      profiles = profile 30 ∷ profile 70 ∷ [];
      conversions = conversion 110 ∷ conversion 114 ∷ conversion 118 ∷ [];
    }

abbrev cyclic : ℕ → Cyclic
cyclic n = record { currency = n; amount = n + 1; kind = 2; first = n + 3 }

abbrev limit : ℕ → CyclicLimit
limit n = record { switches = n; limit = n + 1 }

abbrev twos : {A : Type 0} → (ℕ → A) → (from step : ℕ) → Two A
twos f n k = record { one = f n; two = f (n + k) }

unfoldable pub counted_dates : Dates
counted_dates =
    dated (record { year = 122; month = 123; day = 124; accumulators = twos cyclic 125 4; rules = twos limit 133 2 ∷ twos limit 137 2 ∷ [] })

-- controls of accumulators, of counters, and two cashback checks
abbrev controlling : (accumulators counters one two : ℕ) → Families
controlling a c one two = cpace (record { accumulators = fours (λ n. n) a 1; counters = fours (λ n. n) c 1; cashbacks = one ∷ two ∷ [] })

-- what is read of it
pub rules-read : rules_in (body counted) (cycles_bytes counted_dates) (controls_bytes (controlling 141 145 0 1)) 1
    ≡ rules_said counted counted_dates (controlling 141 145 0 1) 1
unfolding counted counted_dates setup_row head_row profile_row conversion_row cycles_row cyclic_limits_row controls_row spelled written rules_in rate_in profile_in
    accumulator_in counter_in cycle_in cyclic_in number rules_said profile_said conversion_said
rules-read = refl

pub fresh-read : fresh_in (body counted) (cycles_bytes counted_dates) ≡ fresh_said counted counted_dates
unfolding counted counted_dates setup_row head_row profile_row conversion_row cycles_row cyclic_limits_row spelled written fresh_in date_at number fresh_said
fresh-read = refl

-- ---- ranges: issuer authentication required is 2

abbrev twice : Setup
twice =
    record {
      key = printed.key;
      pin = printed.pin;
      required = 2;
      atc = printed.atc;
      online = printed.online;
      accumulators = printed.accumulators;
      counters = printed.counters;
      profiles = printed.profiles;
      conversions = printed.conversions;
    }

-- ---- a mask with a bit above 21, in the printed set-up's one profile

abbrev masked : (bit : ℕ) → Setup
masked bit =
    let p = printed_profile in
    record {
      key = printed.key;
      pin = printed.pin;
      required = printed.required;
      atc = printed.atc;
      online = printed.online;
      accumulators = printed.accumulators;
      counters = printed.counters;
      profiles =
          record {
            number = p.number;
            online = p.online;
            decline = 2 ^ bit;
            default = p.default;
            maximum-on = p.maximum-on;
            maximum-currency = p.maximum-currency;
            maximum = p.maximum;
            accumulators = p.accumulators;
            counters = p.counters;
            accumulator-sent = p.accumulator-sent;
            first-sent = p.first-sent;
            second-sent = p.second-sent;
          }
          ∷ [];
      conversions = printed.conversions;
    }

-- ---- dates: another last date, first day or kind than those of the witness

abbrev dates : (day start kind : ℕ) → Dates
dates day start kind =
    dated (record {
      year = 0x05;
      month = 0x04;
      day = day;
      accumulators =
          record {
            one = record { currency = 0x0978; amount = 0; kind = kind; first = start };
            two = record { currency = 0x0978; amount = 0; kind = 1; first = 0 };
          };
      rules = record { one = record { switches = 7; limit = 1 }; two = record { switches = 7; limit = 2 } } ∷ [];
    })

abbrev limit_dates : Dates
limit_dates =
    dated (record {
      year = 0x05;
      month = 0x04;
      day = 0x30;
      accumulators = twos cyclic 0 0;
      rules =
          record { one = record { switches = 7; limit = 1 }; two = record { switches = 7; limit = 2 } }
          ∷ record { one = record { switches = 7; limit = 3 }; two = record { switches = 7; limit = 4 } }
          ∷ [];
    })

-- ---- what is compared

abbrev number_of : Setup → Dates → (unnamed : ℕ) → ℕ
number_of x d unnamed = setup_number (read_setup (body x) (cycles_bytes d) [] unnamed).answer

abbrev number_with : Families → ℕ
number_with f = setup_number (read_setup (body printed) [] (controls_bytes f) (2 ^ 26)).answer

-- of a set-up and its tail in a version, 9 where it has no shape
abbrev number_by : Result Shape Refusal → (body : List ℕ) → ℕ
number_by (Ok shape) s = setup_number (read_whole shape s).answer
number_by (Err refusal) s = 9

abbrev number_in : (version : ℕ) → Setup → (tail : List ℕ) → ℕ
number_in version x tail = number_by (shape_of version (body x ++ tail)) (body x ++ tail)

-- the limits of counter 1 in profile 1, as the rules have them, and as they were spelled
abbrev limits_read : Setup → Limits → Bool
limits_read x spelledAs =
    let rule = get_or (get_or (rules_in (body x) [] [] 1).profiles 0 blank_profile).counters 0 blank_counter in
    eqb rule.lower spelledAs.lower && eqb rule.upper spelledAs.upper

-- the limit of a cyclic accumulator in a profile, in a tail for two profiles whose limits are 1 to 4 in their order
abbrev limit_read : (profile accumulator : ℕ) → ℕ
limit_read j i = (get_or (get_or (rules_in [] (cycles_bytes limit_dates) [] 0).cyclic_rules j []) i blank_cyclic).limit.0

-- the control of a slot, and a profile's cashback check, in a tail whose controls are 1 to 8 in their order, with a check in the second profile only
abbrev control_read : (slot : ℕ) → ℕ
control_read i = get_or (rules_in [] [] (controls_bytes (controlling 1 5 0 1)) 0).controls i 0

abbrev cashback_read : (profile : ℕ) → Bool
cashback_read j = get_or (rules_in [] [] (controls_bytes (controlling 1 5 0 1)) 0).cashbacks j false

-- the syllabus that was read, 9 where none was
abbrev followed : Result Shape Refusal → ℕ
followed (Ok shape) = shape.syllabus
followed (Err refusal) = 9

-- whether scripts are on, as it was read
abbrev is_on : Result Shape Refusal → Bool
is_on (Ok shape) = shape.scripting
is_on (Err refusal) = false

abbrev is_off : Result Shape Refusal → Bool
is_off (Ok shape) = not shape.scripting
is_off (Err refusal) = false

abbrev is_refused : ℕ → List ℕ → Bool
is_refused version tail = eqb (shape_number (shape_of version (printed_bytes ++ tail))) 1

-- what is judged of a log, 9 where it has no shape
abbrev judged-by : Result Shape Refusal → (body : List ℕ) → ℕ
judged-by (Ok shape) s = judged_number (log_whole shape s)
judged-by (Err refusal) s = 9

abbrev judged_as : Tail → ℕ
judged_as tail = judged-by (shape_of 7 (printed_bytes ++ tail_bytes tail)) (printed_bytes ++ tail_bytes tail)

-- a log with one entry in First's table, in a set-up with dates of a CPACE card
abbrev dual_log : LogEntry → Tail
dual_log e = seventh off 0 (dated spending) (cpace guarding) false (logged (ring 0 0 (e ∷ []) []))

-- `reads-fields`, `setup-refused`, `reads-tails`, `refused-by-cause` and `past-if-spelled` at single inputs
pub record Samples : Type 0 where
  pub counter-limits : T (limits_read counted (limits 49))
  pub required-above : T (eqb (number_of twice undated (2 ^ 22)) 1)
  pub syllabus-read : T (eqb (followed (shape_of 3 (printed_bytes ++ tail_bytes (third off 1)))) 1)
  pub switch-above : T (is_refused 2 (2 ∷ []))
  pub switch-two : T (is_refused 2 (2 ∷ 0 ∷ []))
  pub behind-off : T (is_refused 2 (0 ∷ 0 ∷ []))
  pub cut_short_lem : T (is_refused 2 (1 ∷ 1 ∷ 2 ∷ 0 ∷ []))
  pub left_over : T (is_refused 3 (1 ∷ 1 ∷ 0 ∷ 0 ∷ 0 ∷ []))
  pub syllabus-above : T (is_refused 3 (0 ∷ 2 ∷ []))
  pub bit_22 : T (eqb (number_of (masked 22) undated (2 ^ 22)) 1 && eqb (number_of (masked 22) undated (2 ^ 25)) 0)
  pub bit_25 : T (eqb (number_in 4 (masked 25) (0 ∷ 0 ∷ 0 ∷ [])) 1 && eqb (number_in 5 (masked 25) (0 ∷ 0 ∷ 0 ∷ 0 ∷ [])) 0)
  pub bit_26 : T (eqb (number_in 5 (masked 26) (0 ∷ 0 ∷ 0 ∷ 0 ∷ [])) 1)
  pub thirtieth : T (eqb (number_of printed (dates 0x30 6 3) (2 ^ 25)) 0)
  pub thirty_first : T (eqb (number_of printed (dates 0x31 6 3) (2 ^ 25)) 1)
  pub first_day_7 : T (eqb (number_of printed (dates 0x30 7 3) (2 ^ 25)) 1)
  pub kind_0 : T (eqb (number_of printed (dates 0x30 6 0) (2 ^ 25)) 1)
  pub second-limit : T (eqb (limit_read 0 1) 2 && eqb (limit_read 1 0) 3)
  pub dated-read : T (eqb (shape_number (shape_of 4 (printed_bytes ++ tail_bytes daily))) 0)
  pub dated_2 : T (is_refused 4 (0 ∷ 0 ∷ 2 ∷ []))
  pub behind-undated : T (is_refused 4 (0 ∷ 0 ∷ 0 ∷ 0 ∷ []))
  pub one-short : T (is_refused 4 (take 47 (tail_bytes daily)))
  pub one_more_lem : T (is_refused 4 (tail_bytes daily ++ 0 ∷ []))
  pub control_15 : T (eqb (number_with (controlling 12 12 1 1)) 0)
  pub control_16 : T (eqb (number_with (controlling 13 12 1 1)) 1 && eqb (number_with (controlling 12 13 1 1)) 1)
  pub cashback_2 : T (eqb (number_with (controlling 0 0 2 0)) 1)
  pub controls-read : T (eqb (control_read 0) 1 && eqb (control_read 3) 4 && eqb (control_read 4) 5 && eqb (control_read 7) 8)
  pub cashbacks-read : T (not (cashback_read 0) && cashback_read 1 && not (cashback_read 2))
  pub family-read : T (eqb (shape_number (shape_of 5 (printed_bytes ++ tail_bytes dual))) 0)
  pub family_2 : T (is_refused 5 (0 ∷ 0 ∷ 0 ∷ 2 ∷ []))
  pub no_family : T (is_refused 5 (0 ∷ 0 ∷ 0 ∷ []))
  pub behind-cpa : T (is_refused 5 (0 ∷ 0 ∷ 0 ∷ 0 ∷ 0 ∷ []))
  pub family-short : T (is_refused 5 (take 57 (tail_bytes dual)))
  pub family-more : T (is_refused 5 (tail_bytes dual ++ 0 ∷ []))
  pub scripts-read : T (is_on (shape_of 6 (printed_bytes ++ tail_bytes (scripted true))))
  pub scripts-off : T (is_off (shape_of 6 (printed_bytes ++ tail_bytes (scripted false))) && is_off (shape_of 5 (printed_bytes ++ tail_bytes dual)))
  pub scripts_2 : T (is_refused 6 (tail_bytes dual ++ 2 ∷ []) && is_refused 6 (0 ∷ 0 ∷ 0 ∷ 0 ∷ 2 ∷ []))
  pub scripts-missing : T (is_refused 6 (tail_bytes dual) && is_refused 6 (0 ∷ 0 ∷ 0 ∷ 0 ∷ []))
  pub scripts-more : T (is_refused 6 (tail_bytes (scripted true) ++ 0 ∷ []) && is_refused 6 (0 ∷ 0 ∷ 0 ∷ 0 ∷ 1 ∷ 0 ∷ []))
  pub log-read : T (eqb (judged_as (logging of_two)) 0 && eqb (judged_as (seventh off 0 undated cpa false unlogged)) 0)
  pub log_2 : T (is_refused 7 (0 ∷ 0 ∷ 0 ∷ 0 ∷ 0 ∷ 2 ∷ []))
  pub log-missing : T (is_refused 7 (0 ∷ 0 ∷ 0 ∷ 0 ∷ 0 ∷ []))
  pub behind-unlogged : T (is_refused 7 (0 ∷ 0 ∷ 0 ∷ 0 ∷ 0 ∷ 0 ∷ 0 ∷ []))
  pub log-short : T (is_refused 7 (take 22 (tail_bytes (logging of_two))))
  pub log-more : T (is_refused 7 (tail_bytes (logging of_two) ++ 0 ∷ []))
  pub ring_21 : T (eqb (judged_as (logging (ring 20 0xFC [] []))) 0 && eqb (judged_as (logging (ring 21 0xFC [] []))) 1)
  pub low_switches : T (eqb (judged_as (logging (ring 0 1 [] []))) 1 && eqb (judged_as (logging (ring 0 2 [] []))) 1)
  pub sources : T (eqb (judged_as (logging (ring 0 0 (entry 1 1 1 ∷ []) []))) 1 && eqb (judged_as (logging (ring 0 0 [] (entry 1 1 1 ∷ [])))) 0)
  pub log-past : T (eqb (judged_as (logging past)) 14 && eqb (judged_as (logging (ring 0 0 (entry 0 12 2 ∷ []) []))) 14)
  pub dual_within : T (eqb (judged_as (dual_log (entry 0 24 1))) 0 && eqb (judged_as (dual_log (entry 0 24 2))) 14)

pub samples : Samples
unfolding counted printed printed_bytes setup_row head_row profile_row conversion_row spelled written rules_in rate_in profile_in accumulator_in
    counter_in number read_setup is_setup has_length is_head are_accumulators is_accumulator are_profiles is_profile_or_absent is_profile are_masks
    is_maximum_amount are_accumulator_rules is_accumulator_rule are_counter_rules are_sent are_numbers_apart profile_number are_conversions
    is_conversion_or_absent is_conversion conversion_pair are_pairs_apart shape_of tails_of base_tail selection_tail entries_end syllabus_tail dating_tail
    cycles_row cyclic_limits_row cycle_in cyclic_in are_cycles is_cycle are_cyclic_rules is_cyclic_rule date_at is_day has_day family_tail controls_row is_family
    scripting_tail logging_tail entry_in reaches_past are_flags are_sources are_within is_in_range is_within judged
samples =
    record {
      counter-limits = tt;
      required-above = tt;
      syllabus-read = tt;
      switch-above = tt;
      switch-two = tt;
      behind-off = tt;
      cut_short_lem = tt;
      left_over = tt;
      syllabus-above = tt;
      bit_22 = tt;
      bit_25 = tt;
      bit_26 = tt;
      thirtieth = tt;
      thirty_first = tt;
      first_day_7 = tt;
      kind_0 = tt;
      second-limit = tt;
      dated-read = tt;
      dated_2 = tt;
      behind-undated = tt;
      one-short = tt;
      one_more_lem = tt;
      control_15 = tt;
      control_16 = tt;
      cashback_2 = tt;
      controls-read = tt;
      cashbacks-read = tt;
      family-read = tt;
      family_2 = tt;
      no_family = tt;
      behind-cpa = tt;
      family-short = tt;
      family-more = tt;
      scripts-read = tt;
      scripts-off = tt;
      scripts_2 = tt;
      scripts-missing = tt;
      scripts-more = tt;
      log-read = tt;
      log_2 = tt;
      log-missing = tt;
      behind-unlogged = tt;
      log-short = tt;
      log-more = tt;
      ring_21 = tt;
      low_switches = tt;
      sources = tt;
      log-past = tt;
      dual_within = tt;
    }
