-- Days, weeks and months of single dates, what is a calendar day and what is none, and CPA's reference days, by computation. Assumes nothing.
use mathlib.Core.Bool.{Bool, true, not, ◌&&◌}
use mathlib.Core.List.{List, [], ◌∷◌}
use Prim.Native.Nat.{ℕ, ◌+◌, ◌-◌, ◌*◌, ◌/◌, ◌%◌}
use lib.Dec.{T, eqb}
use Rattle.calendar.specs.declared.Date.{Date}
use Rattle.calendar.specs.declared.Period.TheVariants.{Day, Week, Month}
use Rattle.calendar.specs.Calendar.{has_day, is_day, day_number, days_of, cycle_of}
use Rattle.calendar.specs.Almanac.{civil_of, in_months, in_years, ordinal, last_named, began}

-- a date as it is written: 0x050715
abbrev date : ℕ → Date
date code = record { year = code / 65536; month = code / 256 % 256; day = code % 256 }

-- a date; the name of its day, 0 Friday to 6 Thursday; its days; its weeks from Friday, Sunday, Monday and Thursday; its month
pub data Row : Type 0 where
  row : (code name days friday sunday monday thursday month : ℕ) → Row

abbrev holds : Row → Bool
holds (row code name days friday sunday monday thursday month) =
    is_day (date code)
    && eqb (days_of (date code)) days
    && eqb (ordinal (civil_of (date code))) days
    && eqb (days % 7) name
    && eqb (cycle_of Day 0 (date code)) days
    && eqb (cycle_of Week 0 (date code)) friday
    && eqb (cycle_of Week 2 (date code)) sunday
    && eqb (cycle_of Week 3 (date code)) monday
    && eqb (cycle_of Week 6 (date code)) thursday
    && eqb (cycle_of Month 0 (date code)) month

abbrev all : List Row → Bool
all [] = true
all (r ∷ rows) = holds r && all rows

abbrev pub rows : List Row
rows =
    row 0x000101 1 1 1 0 0 0 1
    ∷ row 0x000102 2 2 1 1 0 0 1
    ∷ row 0x000103 3 3 1 1 1 0 1
    ∷ row 0x000229 4 60 9 9 9 8 2
    ∷ row 0x000301 5 61 9 9 9 8 3
    ∷ row 0x050718 3 2026 290 290 290 289 67
    ∷ row 0x051231 1 2192 314 313 313 313 72
    ∷ row 0x060101 2 2193 314 314 313 313 73
    ∷ row 0x060102 3 2194 314 314 314 313 73
    ∷ row 0x080229 0 2982 427 426 426 426 98
    ∷ row 0x120229 5 4443 635 635 635 634 146
    ∷ row 0x120327 4 4470 639 639 639 638 147
    ∷ row 0x160229 3 5904 844 844 844 843 194
    ∷ row 0x960229 5 35124 5018 5018 5018 5017 1154
    ∷ row 0x991231 6 36525 5218 5218 5218 5218 1200
    ∷ []

pub days : T (all rows)
unfolding is_day has_day days_of day_number cycle_of civil_of in_months in_years ordinal
days = tt

abbrev none : List ℕ → Bool
none [] = true
none (code ∷ codes) = not (is_day (date code)) && none codes

-- no such day, month or digit
abbrev pub wrong : List ℕ
wrong =
    0x000230 ∷ 0x010229 ∷ 0x100229 ∷ 0x990229 ∷ 0x050431 ∷ 0x050732 ∷ 0x050100
    ∷ 0x051301 ∷ 0x050001
    ∷ 0x0A0101 ∷ 0x001F01 ∷ 0x00010A
    ∷ []

pub no_days : T (none wrong)
unfolding is_day has_day
no_days = tt

-- CPA's reference day of a week, a multiple of 7: it comes so many days before the week's first as its name says
pub data Reference : Type 0 where
  reference : (code first day : ℕ) → Reference

abbrev refers : List Reference → Bool
refers [] = true
refers (reference code first day ∷ more) =
    eqb (7 * (cycle_of Week first (date code) - 1)) day && eqb (began Week first (civil_of (date code))) (day + first) && refers more

pub references :
    T (refers (reference 0x060101 3 2184 ∷ reference 0x060101 2 2191 ∷ reference 0x120327 3 4466 ∷ reference 0x080211 3 2961 ∷ []))
unfolding days_of day_number cycle_of civil_of in_months in_years ordinal began last_named
references = tt
