-- Cycles: a number never falls, and what equal numbers mean. Assumes nothing.
use mathlib.Core.Path.{◌≡◌, refl, ap, ◌∙◌}
use mathlib.Core.Bool.{Bool, true, false}
use mathlib.Core.Logic.{◌↔◌}
use Prim.Native.Nat.{ℕ, suc, ◌+◌, ◌-◌, ◌*◌, ◌%◌, ◌≤◌, ◌<◌}
use native.Mathlib.Omega.{arith}
use borrow.Author.Tests.{ltb-true, ltb-false}
use lib.Dec.{ltb}
use Rattle.calendar.specs.declared.Date.{Date}
use Rattle.calendar.specs.declared.Period.{Period}
use Rattle.calendar.specs.declared.Period.TheVariants.{Day, Week, Month}
use Rattle.calendar.specs.Calendar.{year_of, month_of, is_day, day_number, days_of, week_of, cycle_of}
use Rattle.calendar.specs.Almanac.{date_after}
use Rattle.calendar.proofs.Months.{number_is}
use Rattle.calendar.proofs.Day.{InMonth, calendar-day, earlier}
use Rattle.calendar.proofs.Dates.{days_high, every_day}

-- ---- weeks

week_rises : (first a b : ℕ) → a ≤ b → week_of first a ≤ week_of first b
week_rises first a b h = omega arith

-- a week begins on a day with the first day's name
pub week_exact : (first k : ℕ) → k % 7 ≡ first % 7 → 7 * week_of first k + first % 7 ≡ k + 7
week_exact first k e = omega arith

-- and on no other
pub week_stays : (first k : ℕ) → (suc k % 7 ≡ first % 7 → ⊥) → week_of first (suc k) ≡ week_of first k
week_stays first k e = omega arith

-- no day with the first day's name comes after the one and not after the other
abbrev pub NoneBetween : (first a b : ℕ) → Type 0
NoneBetween first a b = (k : ℕ) → a < k → k ≤ b → k % 7 ≡ first % 7 → ⊥

week_apart : (first a b : ℕ) → a ≤ b → week_of first a ≡ week_of first b → NoneBetween first a b
week_apart first a b h e k l u n =
    let s = week_exact first k n in
    omega arith

week_same : (first a b : ℕ) → a ≤ b → NoneBetween first a b → week_of first a ≡ week_of first b
week_same first a b h none = by (ltb (week_of first a) (week_of first b)) refl where
  by : (t : Bool) → ltb (week_of first a) (week_of first b) ≡ t → week_of first a ≡ week_of first b
  by true e =
      let l = ltb-true (week_of first a) (week_of first b) e in
      absurd (none (7 * week_of first b + first % 7 - 7) (omega arith) (omega arith) (omega arith))
  by false e = let l = ltb-false (week_of first a) (week_of first b) e in omega (arith, week_rises first a b h)

pub one_week : (first a b : ℕ) → a ≤ b → week_of first a ≡ week_of first b ↔ NoneBetween first a b
one_week first a b h = (week_apart first a b h, week_same first a b h)

-- the same of dates: no calendar day with the first day's name lies between
abbrev pub NoDayBetween : (first : ℕ) → (a b : Date) → Type 0
NoDayBetween first a b = (c : Date) → is_day c ≡ true → days_of a < days_of c → days_of c ≤ days_of b → days_of c % 7 ≡ first % 7 → ⊥

-- ONE WEEK
pub one_week_of : (first : ℕ) (a b : Date) → is_day b ≡ true → days_of a ≤ days_of b
    → (cycle_of Week first a ≡ cycle_of Week first b) ↔ NoDayBetween first a b
unfolding cycle_of
one_week_of first a b q h =
    (λ e c r. week_apart first (days_of a) (days_of b) h e (days_of c), λ none. week_same first (days_of a) (days_of b) h (dates none)) where
      dates : NoDayBetween first a b → NoneBetween first (days_of a) (days_of b)
      dates none k l u n =
          let high = days_high b q in
          let nth = every_day (k - 1) (omega arith) in
          let is : days_of (date_after (k - 1)) ≡ k = nth.number ∙ omega arith in
          none (date_after (k - 1)) nth.is (omega arith) (omega arith) (ap (λ (m : ℕ). m % 7) is ∙ n)

-- ---- months

-- ONE MONTH
pub one-month : (first : ℕ) (a b : Date) → is_day a ≡ true → is_day b ≡ true
    → (cycle_of Month first a ≡ cycle_of Month first b) ↔ ((year_of a ≡ year_of b) × (month_of a ≡ month_of b))
unfolding cycle_of
one-month first a b p q =
    let i = (calendar-day a p).in_month in
    let j = (calendar-day b q).in_month in
    (λ e. omega arith, λ e. omega (arith, e.0, e.1))

-- ---- a cycle's number never falls

later_month : (y m d z n e : ℕ) → InMonth y m d → InMonth z n e → day_number y m d ≤ day_number z n e → 12 * y + m ≤ 12 * z + n
later_month y m d z n e p q h =
    let low = p.day_low in
    let not : 12 * z + n < 12 * y + m → ⊥ = λ t. omega (arith, earlier z n e y m d q p t, number_is y m d) in
    omega arith

-- NEVER FALLS
pub never_falls : (period : Period) (first : ℕ) (a b : Date) → is_day a ≡ true → is_day b ≡ true → days_of a ≤ days_of b
    → cycle_of period first a ≤ cycle_of period first b
unfolding cycle_of days_of
never_falls Day first a b p q h = h
never_falls Week first a b p q h = week_rises first (days_of a) (days_of b) h
never_falls Month first a b p q h = later_month _ _ _ _ _ _ (calendar-day a p).in_month (calendar-day b q).in_month h
