-- The calendar of the cyclic accumulators, for the years 2000 to 2099 (document 02, request Five; CPA, Annexes E1 and E2).
use Rattle.std.specs.Prelude.{ℕ, ◌+◌, ◌-◌, ◌*◌, ◌/◌, ◌%◌, Bool, not, ◌&&◌, List, ltb, eqb}
use Rattle.wire.specs.Wire.{byte, is_pair, pair_value}
pub use Rattle.days.specs.Days.{is_leap, month_length, before_months, days_before}
unfoldable pub use Rattle.days.specs.Days.{has_day, day_number}
use Rattle.calendar.specs.declared.Date.{Date}
use Rattle.calendar.specs.declared.Period.{Period}
use Rattle.calendar.specs.declared.Period.TheVariants.{Day, Week, Month}

-- ---- dates

-- YYMMDD at a place, two decimal digits to a byte
unfoldable pub date_at : List ℕ → (at : ℕ) → Date
date_at s at = record { year = byte s at; month = byte s (at + 1); day = byte s (at + 2) }

-- the three bytes as one number: as such, calendar days compare as they follow each other
abbrev pub code_of : Date → ℕ
code_of date = date.year * 65536 + date.month * 256 + date.day

unfoldable pub is_before : (a b : Date) → Bool
is_before a b = ltb (code_of a) (code_of b)

-- what the digits write; the year is 2000 + YY, and this is YY
abbrev pub year_of : Date → ℕ
year_of date = pair_value date.year

abbrev pub month_of : Date → ℕ
month_of date = pair_value date.month

abbrev pub day_of : Date → ℕ
day_of date = pair_value date.day

-- ---- calendar days

-- six digits 0 to 9
abbrev pub has_digits : Date → Bool
has_digits date = is_pair date.year && is_pair date.month && is_pair date.day

unfoldable pub is_day : Date → Bool
is_day date = has_digits date && has_day (year_of date) (month_of date) (day_of date)

-- ---- days

unfoldable pub days_of : Date → ℕ
days_of date = day_number (year_of date) (month_of date) (day_of date)

-- ---- cycles

-- day 0 was a Friday; a week begins on the first day, 0 Friday to 6 Thursday
abbrev pub week_of : (first days : ℕ) → ℕ
week_of first days = (days + 7 - first % 7) / 7

unfoldable pub cycle_of : Period → (first : ℕ) → Date → ℕ
cycle_of Day first date = days_of date
cycle_of Week first date = week_of first (days_of date)
cycle_of Month first date = 12 * year_of date + month_of date

-- a date after the last one that falls in another cycle
unfoldable pub begins : Period → (first : ℕ) → (last date : Date) → Bool
begins period first last date = is_before last date && not (eqb (cycle_of period first last) (cycle_of period first date))
