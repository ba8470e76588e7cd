-- Where months and years begin and end. Assumes nothing.
use mathlib.Core.Path.{◌≡◌, refl}
use mathlib.Core.Bool.{Bool, true, false, cond, ◌&&◌, ◌||◌}
use Prim.Native.Nat.{ℕ, zero, suc, ◌+◌, ◌*◌, ◌/◌, ◌%◌, ◌≤◌, ◌<◌}
use native.Mathlib.Omega.{arith}
use borrow.Author.Tests.{ltb-true, ltb-false, eqb-true, eqb-false}
use lib.Dec.{leb, ltb, eqb, leb→le, eqb→eq}
use Rattle.calendar.specs.declared.Date.{Date}
use Rattle.calendar.specs.Calendar.{year_of, month_of, day_of, is_leap, days_before, day_number, days_of}
use Rattle.days.proofs.Before.{before-most}
use Rattle.calendar.proofs.Every.{every, at}

-- ---- bounds of any month and any date

bit-most : (b : Bool) → cond b 1 0 ≤ 1
bit-most true = omega arith
bit-most false = omega arith

pub days_most : (date : Date) → days_of date ≤ 366 * year_of date + 335 + day_of date
unfolding days_of day_number
days_most date = omega (arith, before-most (month_of date), bit-most (ltb 2 (month_of date) && is_leap (year_of date)))

-- ---- the months of a common year and of a leap year

abbrev pub length_in : (leap : Bool) (month : ℕ) → ℕ
length_in leap month = cond (eqb month 2) (cond leap 29 28) (cond (eqb month 4 || eqb month 6 || eqb month 9 || eqb month 11) 30 31)

abbrev pub before_in : (leap : Bool) (month : ℕ) → ℕ
before_in leap month = days_before month + cond (ltb 2 month && leap) 1 0

pub length_within : (leap : Bool) (month : ℕ) → (1 ≤ length_in leap month) × (length_in leap month ≤ 31)
length_within leap month = by (eqb month 2) leap (eqb month 4 || eqb month 6 || eqb month 9 || eqb month 11) where
  by : (a b c : Bool) → (1 ≤ cond a (cond b 29 28) (cond c 30 31)) × (cond a (cond b 29 28) (cond c 30 31) ≤ 31)
  by true true c = omega arith
  by true false c = omega arith
  by false b true = omega arith
  by false b false = omega arith

-- month k + 1 ends where the next one begins
abbrev meets : (leap : Bool) (k : ℕ) → Bool
meets leap k = eqb (before_in leap (suc k) + length_in leap (suc k)) (before_in leap (suc (suc k)))

pub month-step : (leap : Bool) (m : ℕ) → 1 ≤ m → m < 12 → before_in leap m + length_in leap m ≡ before_in leap (suc m)
month-step leap zero l h = absurd (omega arith)
month-step true (suc k) l h = eqb→eq _ _ (at (meets true) 11 tt k (omega arith))
month-step false (suc k) l h = eqb→eq _ _ (at (meets false) 11 tt k (omega arith))

-- month j + 1 ends before month k + 1 begins
abbrev ends : (leap : Bool) (k j : ℕ) → Bool
ends leap k j = leb (before_in leap (suc j) + length_in leap (suc j)) (before_in leap (suc k))

abbrev apart : (leap : Bool) (k : ℕ) → Bool
apart leap k = every (ends leap k) k

months_apart : (leap : Bool) (m n : ℕ) → 1 ≤ m → m < n → n ≤ 12 → before_in leap m + length_in leap m ≤ before_in leap n
months_apart leap zero n l h u = absurd (omega arith)
months_apart leap (suc j) zero l h u = absurd (omega arith)
months_apart true (suc j) (suc k) l h u = leb→le _ _ (at (ends true k) k (at (apart true) 12 tt k (omega arith)) j (omega arith))
months_apart false (suc j) (suc k) l h u = leb→le _ _ (at (ends false k) k (at (apart false) 12 tt k (omega arith)) j (omega arith))

-- December ends with the year, and no month later
pub december : (leap : Bool) → before_in leap 12 + length_in leap 12 ≡ 365 + cond leap 1 0
december true = refl
december false = refl

abbrev within : (leap : Bool) (m : ℕ) → Bool
within leap m = leb (before_in leap m + length_in leap m) (365 + cond leap 1 0)

pub year-most : (leap : Bool) (m : ℕ) → m ≤ 12 → before_in leap m + length_in leap m ≤ 365 + cond leap 1 0
year-most true m h = leb→le _ _ (at (within true) 13 tt m (omega arith))
year-most false m h = leb→le _ _ (at (within false) 13 tt m (omega arith))

-- ---- years

abbrev pub year_start : (year : ℕ) → ℕ
year_start year = 365 * year + (year + 3) / 4

pub year-step : (year : ℕ) → year_start year + (365 + cond (is_leap year) 1 0) ≡ year_start (suc year)
year-step year = by (is_leap year) refl where
  by : (b : Bool) → is_leap year ≡ b → year_start year + (365 + cond b 1 0) ≡ year_start (suc year)
  by true e = let h = eqb-true (year % 4) 0 e in omega arith
  by false e = let h = eqb-false (year % 4) 0 e in omega arith

-- ---- months of years

abbrev pub month_start : (year month : ℕ) → ℕ
month_start year month = year_start year + before_in (is_leap year) month

pub number_is : (year month day : ℕ) → day_number year month day ≡ month_start year month + day
unfolding day_number
number_is year month day = omega arith

-- a month ends before any later one begins
pub starts_apart : (y m z n : ℕ) → 1 ≤ m → m ≤ 12 → 1 ≤ n → n ≤ 12 → 12 * y + m < 12 * z + n
    → month_start y m + length_in (is_leap y) m ≤ month_start z n
starts_apart y m z n low high low' high' h = by (ltb y z) refl where
  by : (b : Bool) → ltb y z ≡ b → month_start y m + length_in (is_leap y) m ≤ month_start z n
  by true e = let l = ltb-true y z e in omega (arith, year-step y, year-most (is_leap y) m high)
  by false e =
      let l = ltb-false y z e in
      let same : z ≡ y = omega arith in
      let less : m < n = omega arith in
      rw same (omega (arith, months_apart (is_leap y) m n low less high'))
