-- The laws of the calendar, computed for a few dates. They follow from `every-day`, `agree`, `never-falls` and `before-agrees`; said apart,
-- they show of a wrong calendar that the law itself is false of it. Assumes nothing.
use mathlib.Core.Bool.{Bool, true, false, not, ◌&&◌}
use Prim.Native.Nat.{ℕ, ◌-◌, ◌/◌, ◌%◌}
use lib.Dec.{T, leb, eqb}
use Rattle.calendar.specs.declared.Date.{Date}
use Rattle.calendar.specs.declared.Period.{Period}
use Rattle.calendar.specs.declared.Period.TheVariants.{Day, Week, Month}
use Rattle.calendar.specs.Calendar.{is_before, has_day, is_day, day_number, days_of, cycle_of, begins}
use Rattle.calendar.specs.Almanac.{civil_of, date_of, next_day, tomorrow, date_after, in_months, in_years, ordinal, last_named, began, is_new}

-- a date as it is written: 0x050715
abbrev date : ℕ → Date
date code = record { year = code / 65536; month = code / 256 % 256; day = code % 256 }

abbrev same : Bool → Bool → Bool
same true b = b
same false b = not b

-- `every-day`: the n-th date after 1 January 2000 is a calendar day, of that number
abbrev is_nth : ℕ → Bool
is_nth n = is_day (date_after n) && eqb (days_of (date_after n) - 1) n

-- `agree`: a cycle begins by the calendar's numbers exactly if by the almanac
abbrev agrees : Period → (first last now : ℕ) → Bool
agrees period first last now =
    same (begins period first (date last) (date now)) (is_new period first (civil_of (date last)) (civil_of (date now)))

-- `never-falls`
abbrev rises : Period → (first last now : ℕ) → Bool
rises period first last now = leb (cycle_of period first (date last)) (cycle_of period first (date now))

pub record Samples : Type 0 where
  -- 29 February 2000 and the day after it
  pub leap_day : T (is_nth 59)
  pub day-after : T (is_nth 60)
  -- Saturday 1, Sunday 2 and Monday 3 January 2000; Sunday 31 December 2000 and Monday 1 January 2001
  pub first_weeks : T (agrees Week 3 0x000101 0x000103 && agrees Week 2 0x000101 0x000102 && agrees Week 3 0x000101 0x000102)
  pub over_the_year : T (agrees Week 3 0x001231 0x010101 && agrees Week 2 0x001231 0x010101)
  -- one month in two years, the months before and after a year's end, and one month
  pub other-year : T (agrees Month 0 0x000715 0x010715)
  pub new-year : T (rises Month 0 0x001231 0x010101)
  pub one-month : T (agrees Month 0 0x000701 0x000731 && agrees Month 0 0x000731 0x000801)

pub samples : Samples
unfolding is_day has_day days_of day_number cycle_of begins is_before civil_of date_of next_day tomorrow date_after in_months in_years ordinal last_named
    began is_new
samples =
    record {
      leap_day = tt;
      day-after = tt;
      first_weeks = tt;
      over_the_year = tt;
      other-year = tt;
      new-year = tt;
      one-month = tt;
    }
