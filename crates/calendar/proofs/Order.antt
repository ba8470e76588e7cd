-- As coded numbers, calendar days compare as their days do. Assumes nothing.
use mathlib.Core.Path.{◌≡◌, refl, sym, ap, ap₂, ◌∙◌}
use mathlib.Core.Bool.{Bool, true, false}
use Prim.Native.Nat.{ℕ, ◌+◌, ◌*◌, ◌/◌, ◌%◌, ◌≤◌, ◌<◌}
use native.Mathlib.Omega.{arith}
use borrow.Author.Tests.{ltb-true, ltb-false, lt-ltb, le-ltb}
use lib.Dec.{ltb}
use Rattle.wire.specs.Wire.{pair_value}
use Rattle.calendar.specs.declared.Date.{Date}
use Rattle.calendar.specs.Calendar.{code_of, is_before, year_of, month_of, day_of, is_day, days_of}
use Rattle.calendar.proofs.Months.{month_start, number_is}
use Rattle.calendar.proofs.Day.{Digits, CalendarDay, calendar-day, earlier}

pub neither : (a b : ℕ) → (a < b → ⊥) → (b < a → ⊥) → a ≡ b
neither a b f g = omega arith

-- ---- bytes

digits_rise : {a b : ℕ} → Digits a → Digits b → a < b → pair_value a < pair_value b
digits_rise p q h = omega arith

is_byte : {a : ℕ} → Digits a → a < 256
is_byte p = omega arith

-- the three bytes of a number
module _ (y m d : ℕ) where
  first : m < 256 → d < 256 → (y * 65536 + m * 256 + d) / 65536 ≡ y
  first hm hd = omega arith

  second : m < 256 → d < 256 → (y * 65536 + m * 256 + d) / 256 % 256 ≡ m
  second hm hd = let e : (y * 65536 + m * 256 + d) / 256 ≡ y * 256 + m = omega arith in rw e (omega arith)

  third : d < 256 → (y * 65536 + m * 256 + d) % 256 ≡ d
  third hd = omega arith

-- a number is below another by the first byte in which they differ
data Lower (y m d z n e : ℕ) : Type 0 where
  by-year : y < z → Lower y m d z n e
  by-month : y ≡ z → m < n → Lower y m d z n e
  by-day : y ≡ z → m ≡ n → d < e → Lower y m d z n e

lower : (y m d z n e : ℕ) → m < 256 → d < 256 → n < 256 → e < 256 → y * 65536 + m * 256 + d < z * 65536 + n * 256 + e → Lower y m d z n e
lower y m d z n e hm hd hn he h = years (ltb y z) refl where
  months : y ≡ z → (b : Bool) → ltb m n ≡ b → Lower y m d z n e
  months s true t = by-month s (ltb-true m n t)
  months s false t = let l = ltb-false m n t in by-day s (omega arith) (omega arith)

  years : (b : Bool) → ltb y z ≡ b → Lower y m d z n e
  years true t = by-year (ltb-true y z t)
  years false t = let l = ltb-false y z t in months (omega arith) (ltb m n) refl

-- ---- dates

module _ (a b : Date) (p : CalendarDay a) (q : CalendarDay b) where
  later_month : 12 * year_of a + month_of a < 12 * year_of b + month_of b → days_of a < days_of b
  unfolding days_of
  later_month h =
      let i = q.in_month in
      omega (arith, earlier _ _ _ _ _ _ p.in_month i h, number_is (year_of b) (month_of b) (day_of b))

  by-lower : Lower a.year a.month a.day b.year b.month b.day → days_of a < days_of b
  unfolding days_of
  by-lower (by-year h) =
      let i = p.in_month in
      let j = q.in_month in
      let k = digits_rise p.year q.year h in
      later_month (omega arith)
  by-lower (by-month s h) =
      let k = digits_rise p.month q.month h in
      let t : year_of a ≡ year_of b = ap pair_value s in
      later_month (omega arith)
  by-lower (by-day s t h) =
      let k = digits_rise p.day q.day h in
      let e : month_start (year_of a) (month_of a) ≡ month_start (year_of b) (month_of b) = ap₂ month_start (ap pair_value s) (ap pair_value t) in
      omega (arith, number_is (year_of a) (month_of a) (day_of a), number_is (year_of b) (month_of b) (day_of b))

  pub code_rises : code_of a < code_of b → days_of a < days_of b
  code_rises h = by-lower (lower _ _ _ _ _ _ (is_byte p.month) (is_byte p.day) (is_byte q.month) (is_byte q.day) h)

  pub same_bytes : code_of a ≡ code_of b → a ≡ b
  same_bytes h =
      let m₁ = is_byte p.month in
      let d₁ = is_byte p.day in
      let m₂ = is_byte q.month in
      let d₂ = is_byte q.day in
      let y : a.year ≡ b.year = sym (first _ _ _ m₁ d₁) ∙ ap (λ (n : ℕ). n / 65536) h ∙ first _ _ _ m₂ d₂ in
      let m : a.month ≡ b.month = sym (second _ _ _ m₁ d₁) ∙ ap (λ (n : ℕ). n / 256 % 256) h ∙ second _ _ _ m₂ d₂ in
      let d : a.day ≡ b.day = sym (third a.year a.month _ d₁) ∙ ap (λ (n : ℕ). n % 256) h ∙ third b.year b.month _ d₂ in
      λ i. record { year = y i; month = m i; day = d i }

-- two days of one number are one date
pub one-date : (a b : Date) → is_day a ≡ true → is_day b ≡ true → days_of a ≡ days_of b → a ≡ b
one-date a b p q e =
    let i = calendar-day a p in
    let j = calendar-day b q in
    same_bytes a b i j (neither _ _ (λ l. omega (arith, code_rises a b i j l)) (λ l. omega (arith, code_rises b a j i l)))

-- THE ORDER
pub compares : (a b : Date) → is_day a ≡ true → is_day b ≡ true → is_before a b ≡ ltb (days_of a) (days_of b)
unfolding is_before
compares a b p q = by (ltb (code_of a) (code_of b)) refl where
  down : (t : Bool) → ltb (code_of b) (code_of a) ≡ t → code_of b ≤ code_of a → days_of b ≤ days_of a
  down true e h = let l = code_rises b a (calendar-day b q) (calendar-day a p) (ltb-true (code_of b) (code_of a) e) in omega arith
  down false e h =
      let l = ltb-false (code_of b) (code_of a) e in
      omega (arith, ap days_of (same_bytes a b (calendar-day a p) (calendar-day b q) (omega arith)))

  by : (t : Bool) → ltb (code_of a) (code_of b) ≡ t → t ≡ ltb (days_of a) (days_of b)
  by true e = sym (lt-ltb _ _ (code_rises a b (calendar-day a p) (calendar-day b q) (ltb-true (code_of a) (code_of b) e)))
  by false e = sym (le-ltb _ _ (down (ltb (code_of b) (code_of a)) refl (ltb-false (code_of a) (code_of b) e)))
