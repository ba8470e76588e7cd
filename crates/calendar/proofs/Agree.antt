-- The calendar and the almanac agree on every pair of calendar days. Assumes nothing.
use mathlib.Core.Path.{◌≡◌, refl, ap, ap₂}
use mathlib.Core.Bool.{Bool, true, false, cond, not, ◌&&◌}
use Prim.Native.Nat.{ℕ, zero, suc, ◌+◌, ◌-◌, ◌*◌, ◌%◌, ◌≤◌, ◌<◌}
use native.Mathlib.Omega.{arith}
use borrow.Author.Tests.{ltb-true, ltb-false, lt-ltb, eqb-true, eqb-false, eq-eqb, ne_eqb}
use lib.Dec.{ltb, eqb}
use Rattle.calendar.specs.declared.Date.{Date}
use Rattle.calendar.specs.declared.Period.{Period}
use Rattle.calendar.specs.declared.Period.TheVariants.{Day, Week, Month}
use Rattle.calendar.specs.Calendar.{is_before, year_of, month_of, is_leap, is_day, day_number, days_of, week_of, cycle_of, begins}
use Rattle.calendar.specs.Almanac.{Civil, civil_of, in_months, in_years, ordinal, last_named, began, is_new}
use Rattle.calendar.proofs.Months.{before_in, year_start, year-step, month-step, december, month_start, number_is}
use Rattle.calendar.proofs.Day.{InMonth, calendar-day, earlier}
use Rattle.calendar.proofs.Order.{neither, compares}
use Rattle.calendar.proofs.Cycles.{week_exact, week_stays}
use Rattle.calendar.proofs.Walk.{IsDay, number_of, month_agrees}

-- ---- which day it is

months_agree : (y k : ℕ) → y < 100 → k < 12 → in_months y k ≡ before_in (is_leap y) (suc k)
unfolding in_months
months_agree y zero u h = refl
months_agree y (suc k) u h =
    omega (
      arith,
      months_agree y k u (omega arith),
      month_agrees y (suc k) u (omega arith) (omega arith),
      month-step (is_leap y) (suc k) (omega arith) h,
    )

year_agrees : (y : ℕ) → y < 100 → in_months y 12 ≡ 365 + cond (is_leap y) 1 0
unfolding in_months
year_agrees y u = omega (arith, months_agree y 11 u (omega arith), month_agrees y 12 u (omega arith) (omega arith), december (is_leap y))

years_agree : (y : ℕ) → y ≤ 100 → in_years y ≡ year_start y
unfolding in_years
years_agree zero u = refl
years_agree (suc y) u = omega (arith, years_agree y (omega arith), year_agrees y (omega arith), year-step y)

ordinal-is : (c : Civil) → c.year < 100 → IsDay c → ordinal c ≡ number_of c
unfolding ordinal
ordinal-is c u h = by c.month h.month_low h.month_high where
  by : (m : ℕ) → 1 ≤ m → m ≤ 12 → in_years c.year + in_months c.year (m - 1) + c.day ≡ day_number c.year m c.day
  by zero l t = absurd (omega arith)
  by (suc k) l t =
      let e : suc k - 1 ≡ k = omega arith in
      rw e
      (omega (arith, years_agree c.year (omega arith), months_agree c.year k u (omega arith), number_is c.year (suc k) c.day))

-- ---- later and another, as one test of order: the cycle's first day s comes after a

after : (a b s : ℕ) (same : Bool) → (a < s → (a < b) × (same ≡ false)) → (s ≤ a → a < b → same ≡ true) → (ltb a b && not same) ≡ ltb a s
after a b s same f g = by (ltb a s) refl where
  off : (t : Bool) → ltb a b ≡ t → s ≤ a → (t && not same) ≡ false
  off true e l = ap not (g l (ltb-true a b e))
  off false e l = refl

  by : (t : Bool) → ltb a s ≡ t → (ltb a b && not same) ≡ t
  by true e =
      let h = f (ltb-true a s e) in
      simp (lt-ltb a b h.0, h.1)
  by false e = off (ltb a b) refl (ltb-false a s e)

new-day : (a b : ℕ) → (ltb a b && not (eqb a b)) ≡ ltb a b
new-day a b = after a b b (eqb a b) (λ h. (h, ne_eqb a b (λ e. omega arith))) (λ l h. absurd (omega arith))

-- ---- weeks

last-is : (first n : ℕ) → first < 7 → last_named first n ≡ 7 * week_of first n + first % 7 - 7
unfolding last_named
last-is first zero h = omega arith
last-is first (suc n) h = by (last-is first n h) (eqb (suc n % 7) first) refl where
  by : last_named first n ≡ 7 * week_of first n + first % 7 - 7 → (t : Bool) → eqb (suc n % 7) first ≡ t
      → cond t (suc n) (last_named first n) ≡ 7 * week_of first (suc n) + first % 7 - 7
  by before true e =
      let f = eqb-true (suc n % 7) first e in
      let s : suc n % 7 ≡ first % 7 = omega arith in
      rw (week_exact first (suc n) s) (omega arith)
  by before false e =
      let f = eqb-false (suc n % 7) first e in
      let s : suc n % 7 ≡ first % 7 → ⊥ = λ t. f (omega arith) in
      rw (week_stays first n s) before

new_week : (first a b : ℕ) → first < 7 → (ltb a b && not (eqb (week_of first a) (week_of first b))) ≡ ltb a (last_named first b)
new_week first a b h =
    let e = last-is first b h in
    after a b (last_named first b) (eqb (week_of first a) (week_of first b))
    (λ l. (omega arith, ne_eqb (week_of first a) (week_of first b) (λ s. omega arith)))
    (λ l u. eq-eqb (week_of first a) (week_of first b) (omega arith))

-- ---- months

module _ (y m d z n e : ℕ) (p : InMonth y m d) (q : InMonth z n e) where
  one-month : 12 * y + m ≡ 12 * z + n → month_start y m ≡ month_start z n
  one-month h =
      let s : y ≡ z = omega (arith, p, q) in
      let t : m ≡ n = omega arith in
      ap₂ month_start s t

  another : day_number y m d < day_number z n 1 → (day_number y m d < day_number z n e) × (eqb (12 * y + m) (12 * z + n) ≡ false)
  another h =
      let a = number_is y m d in
      let b = number_is z n e in
      let s = number_is z n 1 in
      (omega (arith, q), ne_eqb (12 * y + m) (12 * z + n) (λ t. omega (arith, p, one-month t)))

  same : day_number z n 1 ≤ day_number y m d → day_number y m d < day_number z n e → eqb (12 * y + m) (12 * z + n) ≡ true
  same h l =
      eq-eqb (12 * y + m) (12 * z + n)
      (neither _ _
      (λ s. omega (arith, earlier y m d z n e p q s, number_is z n 1))
      (λ s. omega (arith, earlier z n e y m d q p s, number_is y m d)))

  new-month : (ltb (day_number y m d) (day_number z n e) && not (eqb (12 * y + m) (12 * z + n))) ≡ ltb (day_number y m d) (day_number z n 1)
  new-month = after (day_number y m d) (day_number z n e) (day_number z n 1) (eqb (12 * y + m) (12 * z + n)) another same

-- ---- dates

module _ (date : Date) (e : is_day date ≡ true) where
  year-below : year_of date < 100
  year-below = let p = (calendar-day date e).year in omega arith

  -- the day's number
  pub ordinal_days : ordinal (civil_of date) ≡ days_of date
  unfolding civil_of days_of
  ordinal_days = ordinal-is (civil_of date) year-below (calendar-day date e).in_month

  -- the month's first day
  month-first : began Month 0 (civil_of date) ≡ day_number (year_of date) (month_of date) 1
  unfolding began civil_of
  month-first =
      let i = (calendar-day date e).in_month in
      let l = i.day_low in
      let h = i.day_high in
      ordinal-is (record { year = year_of date; month = month_of date; day = 1 }) year-below
      (record { month_low = i.month_low; month_high = i.month_high; day_low = omega arith; day_high = omega arith })

-- THE AGREEMENT: a cycle begins by the calendar's numbers exactly if by the almanac it began after the last date
pub agree : (period : Period) (first : ℕ) (last date : Date) → first < 7 → is_day last ≡ true → is_day date ≡ true
    → begins period first last date ≡ is_new period first (civil_of last) (civil_of date)
unfolding begins is_new began cycle_of days_of
agree Day first last date h p q = rw (compares last date p q, ordinal_days last p, ordinal_days date q) (new-day (days_of last) (days_of date))
agree Week first last date h p q =
    rw (compares last date p q, ordinal_days last p, ordinal_days date q) (new_week first (days_of last) (days_of date) h)
agree Month first last date h p q =
    rw (compares last date p q, ordinal_days last p, month-first date q)
    (new-month _ _ _ _ _ _ (calendar-day last p).in_month (calendar-day date q).in_month)

-- a date comes before another by its code exactly if it does by the almanac
pub before_agrees : (a b : Date) → is_day a ≡ true → is_day b ≡ true → is_before a b ≡ ltb (ordinal (civil_of a)) (ordinal (civil_of b))
before_agrees a b p q = rw (ordinal_days a p, ordinal_days b q) (compares a b p q)
