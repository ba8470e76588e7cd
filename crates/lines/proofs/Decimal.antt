-- Numbers in decimal: that the digits of the tens stand before the last one, how many there are, and that they read back. Assumes nothing.
use mathlib.Core.Path.{◌≡◌, refl, sym}
use mathlib.Core.Bool.{Bool, true, false}
use mathlib.Core.List.{List, [], ◌∷◌, ◌++◌}
use Prim.Native.Nat.{ℕ, ◌+◌, ◌*◌, ◌-◌, ◌/◌, ◌%◌, ◌≤◌, ◌<◌}
use native.Mathlib.Nat.{div-div-eq-div-mul, div-eq_of_lt}
use native.Mathlib.Omega.{arith}
use borrow.Author.Tests.{ltb-true, ltb-false, lt-ltb, le-ltb}
use lib.Dec.{ltb}
use lib.ListN.{length, length-append}
use Rattle.lines.specs.Lines.{digit, decimal}
use Rattle.text.proofs.Each.{Each, none, more, append}

pub zero : decimal 0 ≡ 48 ∷ []
unfolding decimal digit
zero = refl

no_digit : (n unit : ℕ) → n < unit → digit n unit ≡ []
unfolding digit
no_digit n unit h = simp (lt-ltb n unit h)

its-digit : (n unit : ℕ) → unit ≤ n → digit n unit ≡ (48 + n / unit % 10) ∷ []
unfolding digit
its-digit n unit h = simp (le-ltb n unit h)

pub ones : (n : ℕ) → n < 10 → (48 + n) ∷ [] ≡ decimal n
unfolding decimal
ones n h =
    let same : n % 10 ≡ n = omega arith in
    simp (no_digit n 10_000 (omega arith), no_digit n 1_000 (omega arith), no_digit n 100 (omega arith), no_digit n 10 h, same)

-- a unit's digit is the tens' digit of a tenth of it
module _ (n unit unit' : ℕ) (same : n / 10 / unit ≡ n / unit') (below : n / 10 < unit → n < unit') (from : unit ≤ n / 10 → unit' ≤ n) where
  tenth : digit (n / 10) unit ≡ digit n unit'
  unfolding digit
  tenth = by (ltb (n / 10) unit) refl where
    by : (t : Bool) → ltb (n / 10) unit ≡ t → digit (n / 10) unit ≡ digit n unit'
    by true e = simp (e, lt-ltb n unit' (below (ltb-true (n / 10) unit e)))
    by false e = simp (e, le-ltb n unit' (from (ltb-false (n / 10) unit e)), same)

pub tens : (n : ℕ) → 10 ≤ n → n < 100_000 → decimal (n / 10) ++ (48 + n % 10) ∷ [] ≡ decimal n
unfolding decimal
tens n h small =
    let none : digit (n / 10) 10_000 ≡ [] = no_digit (n / 10) 10_000 (omega arith) in
    let ten : digit n 10 ≡ (48 + n / 10 % 10) ∷ [] = its-digit n 10 h in
    let thousand = tenth n 100 1_000 (div-div-eq-div-mul n 10 100) (λ l. omega arith) (λ l. omega arith) in
    let ten-thousand = tenth n 1_000 10_000 (div-div-eq-div-mul n 10 1_000) (λ l. omega arith) (λ l. omega arith) in
    let hundred = tenth n 10 100 (div-div-eq-div-mul n 10 10) (λ l. omega arith) (λ l. omega arith) in
    simp (none, ten-thousand, thousand, hundred, ten)

-- "0" to "9"
abbrev pub IsDigit : ℕ → Type 0
IsDigit b = (48 ≤ b) × (b ≤ 57)

last : (n : ℕ) → Each IsDigit ((48 + n % 10) ∷ [])
last n = more {a = 48 + n % 10} (omega arith, omega arith) none

-- the number that digits write behind another
abbrev read : ℕ → List ℕ → ℕ
read n [] = n
read n (d ∷ s) = read (n * 10 + (d - 48)) s

abbrev pub value : List ℕ → ℕ
value s = read 0 s

read_append : (n : ℕ) (s t : List ℕ) → read n (s ++ t) ≡ read (read n s) t
read_append n [] t = refl
read_append n (d ∷ s) t = read_append (n * 10 + (d - 48)) s t

-- the digit of a unit is at most one, and takes what is read from the units above to it
record One (n unit : ℕ) (s : List ℕ) : Type 0 where
  digits : Each IsDigit s
  size : length s ≤ 1
  reads : read (n / unit / 10) s ≡ n / unit

one : (n unit : ℕ) → One n unit (digit n unit)
unfolding digit
one n unit = by (ltb n unit) refl where
  by : (t : Bool) → ltb n unit ≡ t → One n unit (digit n unit)
  by true e =
      let nothing : n / unit ≡ 0 = div-eq_of_lt (ltb-true n unit e) in
      rw e (record { digits = none; size = omega arith; reads = omega arith })
  by false e = rw e (record { digits = last (n / unit); size = omega arith; reads = omega arith })

step : (n unit above : ℕ) → above ≡ n / unit / 10 → read above (digit n unit) ≡ n / unit
step n unit above e = rw e (one n unit).reads

module _ (n : ℕ) where
  pub digits : Each IsDigit (decimal n)
  unfolding decimal
  digits =
      append (append (append (append (one n 10_000).digits (one n 1_000).digits) (one n 100).digits) (one n 10).digits) (last n)

  pub size : length (decimal n) ≤ 5
  unfolding decimal
  size = simp length-append (omega (arith, (one n 10_000).size, (one n 1_000).size, (one n 100).size, (one n 10).size))

  pub reads_back : n < 100_000 → value (decimal n) ≡ n
  unfolding decimal
  reads_back h =
      let above : 0 ≡ n / 10_000 / 10 = omega arith in
      simp (
        read_append,
        step n 10_000 0 above,
        step n 1_000 (n / 10_000) (sym (div-div-eq-div-mul n 1_000 10)),
        step n 100 (n / 1_000) (sym (div-div-eq-div-mul n 100 10)),
        step n 10 (n / 100) (sym (div-div-eq-div-mul n 10 10)),
      ) (omega arith)
