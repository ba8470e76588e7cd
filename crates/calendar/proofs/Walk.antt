-- The almanac's months are the calendar's, and from a day to the next its number rises by one. Assumes nothing.
use mathlib.Core.Path.{◌≡◌, refl, ap, ◌∙◌}
use mathlib.Core.Bool.{Bool, true, false, cond, not}
use Prim.Native.Nat.{ℕ, zero, suc, ◌+◌, ◌≤◌, ◌<◌}
use native.Mathlib.Omega.{arith}
use borrow.Author.Tests.{ltb-true, ltb-false}
use lib.Dec.{T, ltb, eqb, eqb→eq}
use lib.ListN.{get_or}
use Rattle.calendar.specs.Calendar.{is_leap, day_number}
use Rattle.calendar.specs.Almanac.{Civil, is_leap_year, lengths, month_days, next_day}
use Rattle.calendar.proofs.Every.{at}
use Rattle.calendar.proofs.Months.{length_in, length_within, year-step, month-step, december, number_is}
use Rattle.calendar.proofs.Day.{InMonth}

-- ---- months

abbrev same : Bool → Bool → Bool
same true b = b
same false b = not b

same_eq : (a b : Bool) → T (same a b) → a ≡ b
same_eq true true t = refl
same_eq true false t = absurd t
same_eq false true t = absurd t
same_eq false false t = refl

-- from 2000 to 2099 every fourth year is a leap year
pub leap_agrees : (year : ℕ) → year < 100 → is_leap_year (2000 + year) ≡ is_leap year
leap_agrees year h = same_eq _ _ (at (λ y. same (is_leap_year (2000 + y)) (is_leap y)) 100 tt year h)

-- month k + 1 in both
abbrev equal : Bool → ℕ → Bool
equal leap k = eqb (get_or (lengths leap) (suc k) 0) (length_in leap (suc k))

length_agrees : (leap : Bool) (m : ℕ) → 1 ≤ m → m ≤ 12 → get_or (lengths leap) m 0 ≡ length_in leap m
length_agrees leap zero l h = absurd (omega arith)
length_agrees true (suc k) l h = eqb→eq _ _ (at (equal true) 12 tt k (omega arith))
length_agrees false (suc k) l h = eqb→eq _ _ (at (equal false) 12 tt k (omega arith))

pub month_agrees : (year month : ℕ) → year < 100 → 1 ≤ month → month ≤ 12 → month_days year month ≡ length_in (is_leap year) month
month_agrees year month y l h = ap (λ (b : Bool). get_or (lengths b) month 0) (leap_agrees year y) ∙ length_agrees (is_leap year) month l h

-- ---- one day after the other

abbrev pub number_of : Civil → ℕ
number_of c = day_number c.year c.month c.day

abbrev pub IsDay : Civil → Type 0
IsDay c = InMonth c.year c.month c.day

abbrev pub civil : (year month day : ℕ) → Civil
civil year month day = record { year = year; month = month; day = day }

-- a day, and its number is one more
pub record Next (c n : Civil) : Type 0 where
  pub is : IsDay n
  pub rises : number_of n ≡ number_of c + 1

module _ (y m d : ℕ) (u : y < 100) (h : InMonth y m d) where
  length : month_days y m ≡ length_in (is_leap y) m
  length = month_agrees y m u h.month_low h.month_high

  within : d < month_days y m → Next (civil y m d) (civil y m (suc d))
  within l =
      let e = length in
      record {
        is = record { month_low = h.month_low; month_high = h.month_high; day_low = omega arith; day_high = omega arith };
        rises = omega (arith, number_is y m d, number_is y m (suc d));
      }

  month-end : month_days y m ≤ d → m < 12 → Next (civil y m d) (civil y (suc m) 1)
  month-end l s =
      let e = length in
      let j = h.day_high in
      record {
        is = record { month_low = omega arith; month_high = s; day_low = omega arith; day_high = (length_within (is_leap y) (suc m)).0 };
        rises = omega (arith, number_is y m d, number_is y (suc m) 1, month-step (is_leap y) m h.month_low s);
      }

  year-end : month_days y m ≤ d → 12 ≤ m → Next (civil y m d) (civil (suc y) 1 1)
  year-end l s =
      let e = length in
      let j = h.day_high in
      let t : m ≡ 12 = omega (arith, h.month_high) in
      let v : d ≡ length_in (is_leap y) 12 = omega (arith, ap (length_in (is_leap y)) t) in
      record {
        is = record { month_low = omega arith; month_high = omega arith; day_low = omega arith; day_high = omega arith };
        rises = rw t (omega (arith, number_is y 12 d, number_is (suc y) 1 1, december (is_leap y), year-step y));
      }

  pub next : Next (civil y m d) (next_day (civil y m d))
  unfolding next_day
  next = days (ltb d (month_days y m)) refl where
    months : month_days y m ≤ d → (b : Bool) → ltb m 12 ≡ b → Next (civil y m d) (cond b (civil y (suc m) 1) (civil (suc y) 1 1))
    months l true e = month-end l (ltb-true m 12 e)
    months l false e = year-end l (ltb-false m 12 e)

    days : (b : Bool) → ltb d (month_days y m) ≡ b
        → Next (civil y m d) (cond b (civil y m (suc d)) (cond (ltb m 12) (civil y (suc m) 1) (civil (suc y) 1 1)))
    days true e = within (ltb-true d (month_days y m) e)
    days false e = months (ltb-false d (month_days y m) e) (ltb m 12) refl
