-- The set-up of the sitting that document 01 prints ("A sitting in full"), from its fields: its bytes, and that the premises of the statements are met;
-- also with dates, of a CPACE card, with scripts off or on, and with a log, within its data or past it. Assumes nothing.
use mathlib.Core.Path.{◌≡◌, refl}
use mathlib.Core.Bool.{Bool, true, false, ◌&&◌}
use mathlib.Core.List.{List, [], ◌∷◌, ◌++◌}
use Prim.Native.Nat.{ℕ, ◌^◌, ◌≤◌, ◌<◌}
use native.Mathlib.Omega.{arith}
use borrow.Author.Tests.{ltb-true}
use lib.Dec.{ltb}
use lib.ListN.{replicate}
use Rattle.wire.specs.Wire.{byte, number}
use Rattle.wire.proofs.Pairs.{both}
use Rattle.calendar.specs.Calendar.{is_day, has_day}
use Rattle.calendar.proofs.Dates.{calendar_days}
use Rattle.ranges.specs.Ranges.{is_setup}
use Rattle.rows.specs.Rows.{Field, written, spelled, Fits, Four, Accumulator, Limits, Profile, Setup, head_row, profile_row, setup_row, body}
use Rattle.rows.specs.Rows.{Cyclic, Cycles, undated, dated, cyclic_limits_row, cycles_row, Controls, cpa, cpace, controls_row}
use Rattle.rows.specs.Said.{Says}
use Rattle.rows.specs.InRange.{ThreeDigits, AccumulatorRange, AccumulatorLimits, InRange, CyclicRange, DatesRange, FamiliesRange, LogsRange}
use Rattle.rows.specs.Tails.{off, on, LogEntry, Log, logged, third, fourth, fifth, sixth, seventh, Tail, tail_bytes, Fine, TailSays}
use Rattle.rows.specs.Whole.{whole_body, Within, IsPast, WholeSays}
use Rattle.rows.proofs.Fields.{reads_fields}
use Rattle.rows.proofs.Ranges.{accepted_in_range}
use Rattle.rows.proofs.Behind.{reads_tails}
use Rattle.rows.proofs.Whole.{whole_says}

-- all else zero
abbrev same : {A : Type 0} → A → Four A
same a = record { one = a; two = a; three = a; four = a }

abbrev none : Limits
none = record { switches = 0; lower = 0; upper = 0 }

abbrev empty : Accumulator
empty = record { currency = 0; value = 0 }

-- profile 1 with Online 64, Decline 1024, Default 1024; accumulator 1 switches 7, lower 5000, upper 10000; counter 1 switches 3, limits 255;
-- accumulator 1 sent, counters 1 and 0 sent
abbrev pub profile : Profile
profile =
    record {
      number = 1;
      online = 64;
      decline = 1024;
      default = 1024;
      maximum-on = 0;
      maximum-currency = 0;
      maximum = 0;
      accumulators = record { one = record { switches = 7; lower = 5000; upper = 10000 }; two = none; three = none; four = none };
      counters = record { one = record { switches = 3; lower = 255; upper = 255 }; two = none; three = none; four = none };
      accumulator-sent = 1;
      first-sent = 1;
      second-sent = 0;
    }

-- key 01, PIN 3, not required, ATC 0, no conversions; accumulator 1 in 0978 from 0
unfoldable pub printed : Setup
printed =
    record {
      key = 0x01;
      pin = 3;
      required = 0;
      atc = 0;
      online = 0;
      accumulators = record { one = record { currency = 0x0978; value = 0 }; two = empty; three = empty; four = empty };
      counters = same 0;
      profiles = profile ∷ [];
      conversions = [];
    }

abbrev zeros : ℕ → List ℕ
zeros n = replicate n 0

-- the body of the printed paper's set-up, byte by byte (examples/printed.paper)
unfoldable pub printed_bytes : List ℕ
printed_bytes =
    0x01 ∷ 0x03 ∷ 0x00 ∷ 0x01 ∷ 0x00 ∷ 0x00 ∷ 0x00 ∷ 0x00 ∷ 0x09 ∷ 0x78 ∷ zeros 42
    ++ (0x01 ∷ 0x00 ∷ 0x00 ∷ 0x00 ∷ 0x40 ∷ 0x00 ∷ 0x00 ∷ 0x04 ∷ 0x00 ∷ 0x00 ∷ 0x00 ∷ 0x04 ∷ 0x00 ∷ zeros 11)
    ++ (0x07 ∷ zeros 6 ++ 0x13 ∷ 0x88 ∷ zeros 6 ++ 0x27 ∷ 0x10 ∷ zeros 51)
    ++ (0x03 ∷ 0xFF ∷ 0xFF ∷ zeros 9 ++ 0x01 ∷ 0x01 ∷ 0x00 ∷ [])

-- THE WITNESS: its spelling is the printed body
pub printed-spelled : body printed ≡ printed_bytes
unfolding printed printed_bytes setup_row head_row profile_row spelled written
printed-spelled = refl

-- ---- its fields fit

abbrev are_fit : List Field → Bool
are_fit [] = true
are_fit (f ∷ fs) = ltb f.value (256 ^ f.width) && are_fit fs

fit : (fs : List Field) → are_fit fs ≡ true → Fits fs
unfolding Fits
fit [] e = tt
fit (f ∷ fs) e =
    let (l, r) = both (ltb f.value (256 ^ f.width)) (are_fit fs) e in
    (ltb-true f.value (256 ^ f.width) l, fit fs r)

pub printed-fits : Fits (setup_row printed)
unfolding printed setup_row head_row profile_row
printed-fits = fit (setup_row printed) refl

pub printed-says : Says printed undated cpa (body printed) [] []
printed-says = reads_fields printed undated cpa printed-fits tt tt

-- ---- and are in their ranges

abbrev digits0 : ThreeDigits 0
digits0 = record { hundreds = 0; tens = 0; ones = 0; hundreds-digit = omega arith; tens-digit = omega arith; ones-digit = omega arith; digits = refl }

abbrev pub euro : ThreeDigits 0x0978
euro = record { hundreds = 9; tens = 7; ones = 8; hundreds-digit = omega arith; tens-digit = omega arith; ones-digit = omega arith; digits = refl }

in_range_below : (unnamed : ℕ) → 1024 < unnamed → InRange printed unnamed
unfolding printed
in_range_below unnamed named =
    let none-fine : AccumulatorLimits none = record { switches = omega arith; lower = omega arith; upper = omega arith } in
    let empty-fine : AccumulatorRange empty = record { currency = digits0; value = omega arith } in
    record {
      pin = omega arith;
      required = omega arith;
      profiles-least = omega arith;
      profiles-most = omega arith;
      conversions-most = omega arith;
      online = omega arith;
      accumulators = (record { currency = euro; value = omega arith }, (empty-fine, (empty-fine, (empty-fine, tt))));
      profiles = (
        record {
          number-least = omega arith;
          number-most = omega arith;
          online = omega arith;
          decline = omega arith;
          default = omega arith;
          maximum-on = omega arith;
          maximum-currency = digits0;
          maximum = omega arith;
          accumulators = (record { switches = omega arith; lower = omega arith; upper = omega arith }, (none-fine, (none-fine, (none-fine, tt))));
          counters = (omega arith, (omega arith, (omega arith, (omega arith, tt))));
          accumulator-sent = omega arith;
          first-sent = omega arith;
          second-sent = omega arith;
        },
        tt,
      );
      numbers = (tt, tt);
      conversions = tt;
      pairs = tt;
    }

-- in versions 01 to 03, in version 04, and from version 05 on
pub printed_in_range : InRange printed (2 ^ 22)
printed_in_range = in_range_below (2 ^ 22) (omega arith)

pub printed_in_range_4 : InRange printed (2 ^ 25)
printed_in_range_4 = in_range_below (2 ^ 25) (omega arith)

pub printed_in_range_5 : InRange printed (2 ^ 26)
printed_in_range_5 = in_range_below (2 ^ 26) (omega arith)

pub printed-accepted : is_setup (body printed) (2 ^ 22) ≡ true
printed-accepted = (accepted_in_range printed printed-fits (2 ^ 22)).1 printed_in_range

-- ---- with tails: two entries, one of them empty, and syllabus 1

abbrev pub selective : Tail
selective = third (on ((0x01 ∷ 0x02 ∷ []) ∷ [] ∷ [])) 1

pub selective_bytes : tail_bytes selective ≡ 0x01 ∷ 0x02 ∷ 0x02 ∷ 0x01 ∷ 0x02 ∷ 0x00 ∷ 0x01 ∷ []
selective_bytes = refl

pub selective_says : TailSays printed_bytes selective (printed_bytes ++ tail_bytes selective)
unfolding printed_bytes
selective_says = reads_tails printed_bytes selective refl ((omega arith, (omega arith, (omega arith, tt))), omega arith)

-- ---- with dates: the first cyclic accumulator by days up to 10000, the second by months up to 15000, the last date 15 July 2005

abbrev counting : (kind : ℕ) → Cyclic
counting kind = record { currency = 0x0978; amount = 0; kind = kind; first = 0 }

abbrev pub spending : Cycles
spending =
    record {
      year = 0x05;
      month = 0x07;
      day = 0x15;
      accumulators = record { one = counting 1; two = counting 3 };
      rules = record { one = record { switches = 7; limit = 10000 }; two = record { switches = 7; limit = 15000 } } ∷ [];
    }

abbrev pub daily : Tail
daily = fourth off 0 (dated spending)

pub daily_bytes : tail_bytes daily
    ≡ 0x00 ∷ 0x00 ∷ 0x01 ∷ 0x05 ∷ 0x07 ∷ 0x15 ∷ 0x09 ∷ 0x78 ∷ zeros 8
    ++ (0x01 ∷ 0x00 ∷ 0x09 ∷ 0x78 ∷ zeros 8 ++ 0x03 ∷ 0x00 ∷ 0x07 ∷ zeros 6)
    ++ (0x27 ∷ 0x10 ∷ 0x07 ∷ zeros 6 ++ 0x3A ∷ 0x98 ∷ [])
unfolding cycles_row cyclic_limits_row spelled written
daily_bytes = refl

pub daily_fine : Fine 1 daily
unfolding cycles_row cyclic_limits_row
daily_fine = (tt, omega arith, (fit (cycles_row spending) refl, refl))

july : is_day (record { year = 0x05; month = 0x07; day = 0x15 }) ≡ true
unfolding is_day has_day
july = refl

pub daily_in_range : DatesRange (dated spending)
daily_in_range =
    let (n, few, is) = (calendar_days (record { year = 0x05; month = 0x07; day = 0x15 })).0 july in
    let fine : (kind : ℕ) → 1 ≤ kind → kind ≤ 3 → CyclicRange (counting kind) =
    λ kind least most. record { currency = euro; amount = omega arith; kind-least = least; kind-most = most; first = omega arith } in
    record {
      last = record { after = n; few = few; is = is };
      accumulators = (fine 1 (omega arith) (omega arith), (fine 3 (omega arith) (omega arith), tt));
      rules = (
        (record { switches = omega arith; limit = omega arith }, (record { switches = omega arith; limit = omega arith }, tt)),
        tt,
      );
    }

-- THE WITNESS: it is taken, and says what was spelled
pub daily_says : WholeSays printed daily 4 (whole_body printed daily)
unfolding printed
daily_says = whole_says printed daily printed-fits daily_fine printed_in_range_4 daily_in_range tt tt tt

-- ---- and a CPACE card: accumulator 1 is closed without CVM, counter 4 always, and cashback is checked

abbrev pub guarding : Controls
guarding =
    record {
      accumulators = record { one = 0x01; two = 0x02; three = 0x04; four = 0x08 };
      counters = record { one = 0x03; two = 0x05; three = 0x06; four = 0x0F };
      cashbacks = 1 ∷ [];
    }

abbrev pub dual : Tail
dual = fifth off 0 (dated spending) (cpace guarding)

pub dual_bytes : tail_bytes dual ≡ tail_bytes daily ++ (0x01 ∷ 0x01 ∷ 0x02 ∷ 0x04 ∷ 0x08 ∷ 0x03 ∷ 0x05 ∷ 0x06 ∷ 0x0F ∷ 0x01 ∷ [])
unfolding cycles_row cyclic_limits_row controls_row spelled written
dual_bytes = refl

pub dual_fine : Fine 1 dual
unfolding controls_row
dual_fine = let (chosen, low, dates) = daily_fine in (chosen, low, dates, (fit (controls_row guarding) refl, refl))

pub dual_in_range : FamiliesRange (cpace guarding)
dual_in_range =
    record {
      accumulators = (omega arith, (omega arith, (omega arith, (omega arith, tt))));
      counters = (omega arith, (omega arith, (omega arith, (omega arith, tt))));
      cashbacks = (omega arith, tt);
    }

-- THE WITNESS: it is taken, and says what was spelled
pub dual_says : WholeSays printed dual 5 (whole_body printed dual)
unfolding printed
dual_says = whole_says printed dual printed-fits dual_fine printed_in_range_5 daily_in_range dual_in_range tt tt

-- ---- and scripts, off or on

abbrev pub scripted : (scripting : Bool) → Tail
scripted scripting = sixth off 0 (dated spending) (cpace guarding) scripting

pub scripted-bytes : (tail_bytes (scripted false) ≡ tail_bytes dual ++ 0 ∷ []) × (tail_bytes (scripted true) ≡ tail_bytes dual ++ 1 ∷ [])
unfolding cycles_row cyclic_limits_row controls_row spelled written
scripted-bytes = (refl, refl)

-- THE WITNESS: it is taken, and says what was spelled
pub scripted-says : (scripting : Bool) → WholeSays printed (scripted scripting) 6 (whole_body printed (scripted scripting))
unfolding printed
scripted-says scripting = whole_says printed (scripted scripting) printed-fits dual_fine printed_in_range_5 daily_in_range dual_in_range tt tt

-- ---- and a log in a set-up whose other tails are off: a ring of two, all switches but "offline only"; and one whose last entry asks for bytes 8 and 9 of
-- Second's 8

abbrev pub entry : (source position long : ℕ) → LogEntry
entry source position long = record { source = source; position = position; long = long }

abbrev pub ring : (size switches : ℕ) (firsts seconds : List LogEntry) → Log
ring size switches firsts seconds = record { size = size; switches = switches; profiles = 1 ∷ []; firsts = firsts; seconds = seconds }

abbrev pub logging : Log → Tail
logging l = seventh off 0 undated cpa false (logged l)

abbrev pub of_two : Log
of_two = ring 2 0xDC (entry 0 12 1 ∷ []) (entry 0 12 1 ∷ entry 1 2 2 ∷ entry 1 0 9 ∷ [])

abbrev pub past : Log
past = ring 0 0 [] (entry 1 9 0 ∷ entry 1 8 2 ∷ [])

pub logging_bytes : tail_bytes (logging of_two)
    ≡ 0 ∷ 0 ∷ 0 ∷ 0 ∷ 0 ∷ 0x01 ∷ 0x02 ∷ 0xDC ∷ 0x01
    ∷ 0x01 ∷ 0x00 ∷ 0x0C ∷ 0x01
    ∷ 0x03 ∷ 0x00 ∷ 0x0C ∷ 0x01 ∷ 0x01 ∷ 0x02 ∷ 0x02 ∷ 0x01 ∷ 0x00 ∷ 0x09 ∷ []
logging_bytes = refl

pub logging_fine : Fine 1 (logging of_two)
logging_fine = (tt, omega arith, tt, tt, (refl, omega arith, omega arith))

pub logging_in_range : LogsRange (logged of_two)
logging_in_range =
    record {
      size = omega arith;
      switches = refl;
      profiles = (omega arith, tt);
      firsts = (omega arith, tt);
      seconds = (omega arith, (omega arith, (omega arith, tt)));
    }

pub logging_within : Within (logging of_two)
logging_within = ((λ h. omega arith, tt), (λ h. omega arith, (λ h. omega arith, (λ h. omega arith, tt))))

-- THE WITNESS: it is taken, and says what was spelled
pub logging_says : WholeSays printed (logging of_two) 7 (whole_body printed (logging of_two))
unfolding printed
logging_says = whole_says printed (logging of_two) printed-fits logging_fine printed_in_range_5 tt tt logging_in_range logging_within

-- AND THE WITNESS OF 14
pub past-there : IsPast 7 (whole_body printed (logging past))
unfolding printed
past-there =
    record {
      fields =
          record {
            setup = printed;
            tail = logging past;
            version-is = refl;
            fits = printed-fits;
            in_range_lem = printed_in_range_5;
            fine = (tt, omega arith, tt, tt, (refl, omega arith, omega arith));
            dates_in_range = tt;
            families_in_range = tt;
            logs_in_range =
                record { size = omega arith; switches = refl; profiles = (omega arith, tt); firsts = tt; seconds = (omega arith, (omega arith, tt)) };
            spelled = refl;
          };
      past = λ w. let reached = w.1.1.0 (omega arith) in omega arith;
    }
