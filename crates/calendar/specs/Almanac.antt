-- The same calendar once more, as it hangs on the wall, with nothing of the formulas of Calendar: a day is counted by walking the years and
-- months before it, and a cycle is the day on which it began. Of the code it has `Date`, `Period` and the two digits of a byte.
use Rattle.std.specs.Prelude.{ℕ, zero, suc, ◌+◌, ◌-◌, ◌%◌, Bool, cond, not, ◌&&◌, ◌||◌, List, [], ◌∷◌, get_or, ltb, eqb}
use Rattle.wire.specs.Wire.{pair_of, pair_value}
use Rattle.calendar.specs.declared.Date.{Date}
use Rattle.calendar.specs.declared.Period.{Period}
use Rattle.calendar.specs.declared.Period.TheVariants.{Day, Week, Month}

-- a day from the year 2000 on: the year less 2000, the month and the day from 1 on
pub record Civil : Type 0 where
  pub year : ℕ
  pub month : ℕ
  pub day : ℕ

-- what a date's six digits write, and the date that writes a day
unfoldable pub civil_of : Date → Civil
civil_of date = record { year = pair_value date.year; month = pair_value date.month; day = pair_value date.day }

unfoldable pub date_of : Civil → Date
date_of c = record { year = pair_of c.year; month = pair_of c.month; day = pair_of c.day }

-- ---- months

-- Pope Gregory's rule, of the whole year
abbrev pub is_leap_year : (year : ℕ) → Bool
is_leap_year year = eqb (year % 4) 0 && (not (eqb (year % 100) 0) || eqb (year % 400) 0)

-- the days of January to December; there is no month 0
abbrev pub lengths : (leap : Bool) → List ℕ
lengths leap = 0 ∷ 31 ∷ cond leap 29 28 ∷ 31 ∷ 30 ∷ 31 ∷ 30 ∷ 31 ∷ 31 ∷ 30 ∷ 31 ∷ 30 ∷ 31 ∷ []

abbrev pub month_days : (year month : ℕ) → ℕ
month_days year month = get_or (lengths (is_leap_year (2000 + year))) month 0

-- ---- one day after the other

unfoldable pub next_day : Civil → Civil
next_day c =
    cond (ltb c.day (month_days c.year c.month)) (record { year = c.year; month = c.month; day = suc c.day })
    (cond (ltb c.month 12) (record { year = c.year; month = suc c.month; day = 1 })
    (record { year = suc c.year; month = 1; day = 1 }))

unfoldable pub tomorrow : Date → Date
tomorrow date = date_of (next_day (civil_of date))

-- the n-th date after 1 January 2000
unfoldable pub date_after : ℕ → Date
date_after zero = record { year = 0x00; month = 0x01; day = 0x01 }
date_after (suc n) = tomorrow (date_after n)

-- ---- which day it is

-- all days of the first n months of a year, and of the first n years
unfoldable pub in_months : (year n : ℕ) → ℕ
in_months year zero = 0
in_months year (suc n) = in_months year n + month_days year (suc n)

unfoldable pub in_years : (n : ℕ) → ℕ
in_years zero = 0
in_years (suc n) = in_years n + in_months n 12

-- 1 January 2000 is day 1
unfoldable pub ordinal : Civil → ℕ
ordinal c = in_years c.year + in_months c.year (c.month - 1) + c.day

-- ---- cycles

-- the last of the days up to the n-th that has this name, 0 Friday to 6 Thursday; day 0, 31 December 1999, was a Friday
unfoldable pub last_named : (name n : ℕ) → ℕ
last_named name zero = 0
last_named name (suc n) = let before = last_named name n in cond (eqb (suc n % 7) name) (suc n) before

-- the day on which the cycle of a day began, 0 if that was before 1 January 2000
unfoldable pub began : Period → (first : ℕ) → Civil → ℕ
began Day first c = ordinal c
began Week first c = last_named first (ordinal c)
began Month first c = ordinal (record { year = c.year; month = c.month; day = 1 })

-- the cycle of this day began after the last one
unfoldable pub is_new : Period → (first : ℕ) → (last now : Civil) → Bool
is_new period first last now = ltb (ordinal last) (began period first now)
