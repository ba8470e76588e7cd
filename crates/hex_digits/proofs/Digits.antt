-- A hex digit: its code, and that it reads back. Assumes nothing.
use mathlib.Core.Path.{◌≡◌, refl}
use mathlib.Core.Bool.{Bool, true, false, cond}
use Prim.Native.Nat.{ℕ, ◌+◌, ◌*◌, ◌-◌, ◌/◌, ◌≤◌, ◌<◌}
use native.Mathlib.Omega.{arith}
use borrow.Author.Tests.{ltb-true, ltb-false, lt-ltb, le-ltb}
use lib.Dec.{ltb}
use Rattle.hex_digits.specs.Hex.{hex_digit}

-- the number that a digit stands for
abbrev pub unhex : ℕ → ℕ
unhex d = cond (ltb d 58) (d - 48) (d - 55)

-- a digit: its code as a sum, its least code, and that it reads back
pub record Digit (n d : ℕ) : Type 0 where
  pub sum : n < 16 → 48 + n + n / 10 * 7 ≡ d
  pub least : 48 ≤ d
  pub back : unhex d ≡ n

pub one : (n : ℕ) → Digit n (hex_digit n)
one n = by (ltb n 10) refl where
  by : (t : Bool) → ltb n 10 ≡ t → Digit n (hex_digit n)
  by true e =
      let small = ltb-true n 10 e in
      rw e (record { sum = λ h. omega arith; least = omega arith; back = simp (lt-ltb (48 + n) 58 (omega arith)) (omega arith) })
  by false e =
      let large = ltb-false n 10 e in
      rw e (record { sum = λ h. omega arith; least = omega arith; back = simp (le-ltb (55 + n) 58 (omega arith)) (omega arith) })

pub digit_sum : (n : ℕ) → n < 16 → 48 + n + n / 10 * 7 ≡ hex_digit n
digit_sum n = (one n).sum
