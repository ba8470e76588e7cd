-- What a calendar day is, in bounds, and back. Assumes nothing.
use mathlib.Core.Path.{◌≡◌}
use mathlib.Core.Bool.{true, ◌&&◌}
use Prim.Native.Nat.{ℕ, ◌*◌, ◌+◌, ◌/◌, ◌%◌, ◌≤◌, ◌<◌}
use native.Mathlib.Omega.{arith}
use borrow.Author.Tests.{leb-true, le-leb}
use lib.Dec.{leb}
use Rattle.wire.specs.Wire.{is_pair}
use Rattle.wire.proofs.Pairs.{both}
use Rattle.calendar.specs.declared.Date.{Date}
use Rattle.calendar.specs.Calendar.{year_of, month_of, day_of, is_leap, month_length, has_day, has_digits, is_day, day_number}
use Rattle.calendar.proofs.Months.{length_in, month_start, number_is, starts_apart}

-- two decimal digits
pub record Digits (b : ℕ) : Type 0 where
  pub tens : b / 16 ≤ 9
  pub ones : b % 16 ≤ 9

pub record InMonth (year month day : ℕ) : Type 0 where
  pub month_low : 1 ≤ month
  pub month_high : month ≤ 12
  pub day_low : 1 ≤ day
  pub day_high : day ≤ length_in (is_leap year) month

pub record CalendarDay (date : Date) : Type 0 where
  pub year : Digits date.year
  pub month : Digits date.month
  pub day : Digits date.day
  pub in_month : InMonth (year_of date) (month_of date) (day_of date)

digits : (b : ℕ) → is_pair b ≡ true → Digits b
digits b e =
    let h = both (leb (b / 16) 9) (leb (b % 16) 9) e in
    record { tens = leb-true _ _ h.0; ones = leb-true _ _ h.1 }

in_month_lem : (year month day : ℕ) → has_day year month day ≡ true → InMonth year month day
unfolding has_day
in_month_lem year month day e =
    let h = both (leb 1 month && leb month 12 && leb 1 day) (leb day (month_length year month)) e in
    let g = both (leb 1 month && leb month 12) (leb 1 day) h.0 in
    let f = both (leb 1 month) (leb month 12) g.0 in
    record {
      month_low = leb-true _ _ f.0;
      month_high = leb-true _ _ f.1;
      day_low = leb-true _ _ g.1;
      day_high = leb-true day (month_length year month) h.1;
    }

pub has_day_lem : (year month day : ℕ) → InMonth year month day → has_day year month day ≡ true
unfolding has_day
has_day_lem year month day h =
    simp (
      le-leb 1 month h.month_low,
      le-leb month 12 h.month_high,
      le-leb 1 day h.day_low,
      le-leb day (month_length year month) h.day_high,
    )

pub calendar-day : (date : Date) → is_day date ≡ true → CalendarDay date
unfolding is_day
calendar-day date e =
    let h = both (has_digits date) (has_day (year_of date) (month_of date) (day_of date)) e in
    let g = both (is_pair date.year && is_pair date.month) (is_pair date.day) h.0 in
    let f = both (is_pair date.year) (is_pair date.month) g.0 in
    record {
      year = digits date.year f.0;
      month = digits date.month f.1;
      day = digits date.day g.1;
      in_month = in_month_lem _ _ _ h.1;
    }

-- a day of an earlier month comes before the later month
pub earlier : (y m d z n e : ℕ) → InMonth y m d → InMonth z n e → 12 * y + m < 12 * z + n → day_number y m d ≤ month_start z n
earlier y m d z n e p q h =
    omega (arith, number_is y m d, starts_apart y m z n p.month_low p.month_high q.month_low q.month_high h)
