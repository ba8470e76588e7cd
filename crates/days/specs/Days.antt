-- Days by year, month and day, for the years 2000 to 2099 (document 02, request Five; CPA, Annexes E1 and E2).
use Rattle.std.specs.Prelude.{ℕ, ◌+◌, ◌*◌, ◌/◌, ◌%◌, Bool, cond, ◌&&◌, ◌||◌, List, [], ◌∷◌, get_or, leb, ltb, eqb}

-- 2000 + YY is a leap year, 2000 as well
abbrev pub is_leap : (year : ℕ) → Bool
is_leap year = eqb (year % 4) 0

abbrev pub month_length : (year month : ℕ) → ℕ
month_length year month =
    cond (eqb month 2) (cond (is_leap year) 29 28) (cond (eqb month 4 || eqb month 6 || eqb month 9 || eqb month 11) 30 31)

-- a month of 1 to 12, and a day of that month
unfoldable pub has_day : (year month day : ℕ) → Bool
has_day year month day = leb 1 month && leb month 12 && leb 1 day && leb day (month_length year month)

-- the days of a common year before each month; there is no month 0
abbrev pub before_months : List ℕ
before_months = 0 ∷ 0 ∷ 31 ∷ 59 ∷ 90 ∷ 120 ∷ 151 ∷ 181 ∷ 212 ∷ 243 ∷ 273 ∷ 304 ∷ 334 ∷ []

abbrev pub days_before : (month : ℕ) → ℕ
days_before month = get_or before_months month 0

-- the days from Friday 31 December 1999 on: of the years before, of the months before, the leap day from March on, of the month
unfoldable pub day_number : (year month day : ℕ) → ℕ
day_number year month day = 365 * year + (year + 3) / 4 + days_before month + cond (ltb 2 month && is_leap year) 1 0 + day
