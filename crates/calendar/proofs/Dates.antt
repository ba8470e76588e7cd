-- The calendar days are the 36,525 dates from 000101 to 991231, and their days are 1 to 36,525. Assumes nothing.
use mathlib.Core.Path.{◌≡◌, refl, ap, ◌∙◌}
use mathlib.Core.Bool.{true}
use mathlib.Core.List.{List}
use mathlib.Core.Logic.{◌↔◌}
use Prim.Native.Nat.{ℕ, zero, suc, ◌+◌, ◌-◌, ◌≤◌, ◌<◌}
use native.Mathlib.Nat.{add-zero}
use native.Mathlib.Omega.{arith}
use Rattle.wire.specs.Wire.{number, pair_of, pair_value}
use Rattle.wire.proofs.Pairs.{pair-value, pair_is}
use Rattle.calendar.specs.declared.Date.{Date}
use Rattle.calendar.specs.Calendar.{date_at, code_of, year_of, month_of, day_of, is_leap, has_day, is_day, day_number, days_of}
use Rattle.calendar.specs.Almanac.{Civil, next_day, civil_of, date_of, tomorrow, date_after}
use Rattle.calendar.proofs.Months.{length_within, year-step, year-most, number_is}
use Rattle.calendar.proofs.Day.{CalendarDay, has_day_lem, calendar-day}
use Rattle.calendar.proofs.Order.{one-date}
use Rattle.calendar.proofs.Walk.{number_of, IsDay, next}

-- a date's code is the number in its three bytes
pub code-number : (s : List ℕ) (at : ℕ) → code_of (date_at s at) ≡ number s at 3
unfolding date_at number
code-number s at = rw (add-zero at) (omega arith)

-- ---- a day of the years 2000 to 2099 as a date

pair-kept : (n : ℕ) → n < 100 → pair_value (pair_of n) ≡ n
pair-kept n h = pair-value n ∙ omega arith

module _ (c : Civil) (u : c.year < 100) (h : IsDay c) where
  pub digits-kept : civil_of (date_of c) ≡ c
  unfolding civil_of date_of
  digits-kept =
      let y = pair-kept c.year u in
      let m = pair-kept c.month (omega (arith, h.month_high)) in
      let d = pair-kept c.day (omega (arith, h.day_high, (length_within (is_leap c.year) c.month).1)) in
      λ i. record { year = y i; month = m i; day = d i }

  date-number : days_of (date_of c) ≡ number_of c
  unfolding days_of civil_of
  date-number = ap number_of digits-kept

  date-is : is_day (date_of c) ≡ true
  unfolding is_day date_of civil_of
  date-is =
      let e : has_day (pair_value (pair_of c.year)) (pair_value (pair_of c.month)) (pair_value (pair_of c.day)) ≡ true =
      ap (λ (k : Civil). has_day k.year k.month k.day) digits-kept ∙ has_day_lem c.year c.month c.day h in
      simp (pair_is c.year, pair_is c.month, pair_is c.day, e)

-- ---- from a date to the next

pub record NextDate (a b : Date) : Type 0 where
  pub is : is_day b ≡ true
  pub rises : days_of b ≡ days_of a + 1

module _ (date : Date) (e : is_day date ≡ true) where
  abbrev known : CalendarDay date
  known = calendar-day date e

  pub days_low : 1 ≤ days_of date
  unfolding days_of
  days_low = let i = known.in_month in omega (arith, number_is (year_of date) (month_of date) (day_of date))

  pub days_high : days_of date ≤ 36525
  unfolding days_of
  days_high =
      let i = known.in_month in
      let p = known.year in
      let y = year_of date in
      omega (arith, number_is y (month_of date) (day_of date), year-most (is_leap y) (month_of date) i.month_high, year-step y)

  -- ONE MORE FROM EACH DAY TO THE NEXT
  pub tomorrow_rises : days_of date < 36525 → NextDate date (tomorrow date)
  unfolding tomorrow days_of civil_of
  tomorrow_rises h =
      let p = known.year in
      let c = civil_of date in
      let n = next c.year c.month c.day (omega arith) known.in_month in
      let t = next_day c in
      let u : t.year < 100 = omega (arith, n.rises, number_is t.year t.month t.day, n.is.day_low) in
      record { is = date-is t u n.is; rises = date-number t u n.is ∙ n.rises }

-- ---- all of them

pub record IsNth (n : ℕ) (date : Date) : Type 0 where
  pub is : is_day date ≡ true
  pub number : days_of date ≡ suc n

first-day : IsNth 0 (date_after 0)
unfolding date_after is_day has_day days_of day_number
first-day = record { is = refl; number = refl }

-- EVERY DAY: 1 to 36,525 are the days of the dates from 000101 on, one after the other
pub every_day : (n : ℕ) → n < 36525 → IsNth n (date_after n)
unfolding date_after
every_day zero h = first-day
every_day (suc n) h =
    let before = every_day n (omega arith) in
    let e = before.number in
    let after = tomorrow_rises (date_after n) before.is (omega arith) in
    record { is = after.is; number = omega (arith, after.rises) }

-- and there are no others
pub no_other : (date : Date) → is_day date ≡ true → date ≡ date_after (days_of date - 1)
no_other date e =
    let low = days_low date e in
    let high = days_high date e in
    let nth = every_day (days_of date - 1) (omega arith) in
    one-date date (date_after (days_of date - 1)) e nth.is (omega (arith, nth.number))

-- EXACTLY THE CALENDAR DAYS
pub calendar_days : (date : Date) → (is_day date ≡ true) ↔ ((n : ℕ) × (n < 36525) × (date ≡ date_after n))
calendar_days date =
    (λ e. (days_of date - 1, below e, no_other date e), λ t. ap is_day t.2 ∙ (every_day t.0 t.1).is) where
      below : is_day date ≡ true → days_of date - 1 < 36525
      below e = let low = days_low date e in let high = days_high date e in omega arith
