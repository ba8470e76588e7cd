-- A number's decimal digits and bytes' hex digits read as that number and those bytes. Assumes nothing.
use mathlib.Core.Path.{◌≡◌, refl, sym, ap, ◌∙◌}
use mathlib.Core.Bool.{Bool, true, false}
use mathlib.Core.List.{List, [], ◌∷◌, ◌++◌, append_assoc}
use Prim.Native.Nat.{ℕ, zero, suc, ◌+◌, ◌*◌, ◌/◌, ◌%◌, ◌<◌}
use native.Mathlib.Nat.{div-le_self, div-eq_of_lt, div-div-eq-div-mul}
use native.Mathlib.Numerals.{add-one}
use native.Mathlib.Omega.{arith}
use borrow.Author.Tests.{ltb-true, ltb-false, le-leb, lt-leb}
use lib.Dec.{ltb}
use Rattle.wire.specs.Wire.{number}
use Rattle.iad.specs.declared.Iad.{Iad}
use Rattle.journal.specs.Logged.{cvr_number}
use Rattle.hex_digits.specs.Hex.{hex_digit, hex}
use Rattle.lines.specs.Lines.{digit, decimal}
use Rattle.readback.specs.WellFormed.{octet, Octets, LaidOut}
use Rattle.replies.specs.Replies.{digit_value, pair_at, decimal_from, decimal_in, cvr_in}

-- ---- decimal

-- a digit behind a number
one_more_lem : (n d : ℕ) → d < 10 → n * 10 + d < 100_000 → (n * 10 + (48 + d) % 16) % 100_000 ≡ n * 10 + d
one_more_lem n d h small = let low : (48 + d) % 16 ≡ d = omega arith in rw low (omega arith)

-- behind the digits of the units above, the digit of a unit makes the number of them that the whole has
module _ (n : ℕ) (small : n < 100_000) where
  step : (unit above : ℕ) → above ≡ n / unit / 10 → (s : List ℕ) → decimal_from above (digit n unit ++ s) ≡ decimal_from (n / unit) s
  unfolding digit decimal_from
  step unit above e s = by (ltb n unit) refl where
    by : (t : Bool) → ltb n unit ≡ t → decimal_from above (digit n unit ++ s) ≡ decimal_from (n / unit) s
    by true l =
        let nothing = div-eq_of_lt (ltb-true n unit l) in
        let same : above ≡ n / unit = omega arith in
        rw (l, same)
    by false l =
        let most = div-le_self n unit in
        let value = one_more_lem (n / unit / 10) (n / unit % 10) (omega arith) (omega arith) in
        let same : n / unit / 10 * 10 + n / unit % 10 ≡ n / unit = omega arith in
        rw (l, e, value, same)

  pub decimal-read : decimal_in (decimal n) ≡ n
  unfolding decimal decimal_from
  decimal-read =
      let one = (48 + n % 10) ∷ [] in
      let two = digit n 10 ++ one in
      let three = digit n 100 ++ two in
      let four = digit n 1_000 ++ three in
      let value = one_more_lem (n / 10) (n % 10) (omega arith) (omega arith) in
      simp append_assoc
      (step 10_000 0 (omega arith) four
      ∙ step 1_000 (n / 10_000) (sym (div-div-eq-div-mul n 1_000 10)) three
      ∙ step 100 (n / 1_000) (sym (div-div-eq-div-mul n 100 10)) two
      ∙ step 10 (n / 100) (sym (div-div-eq-div-mul n 10 10)) one
      ∙ omega arith)

-- ---- hex

digit-read : (n : ℕ) → n < 16 → digit_value (hex_digit n) ≡ n
digit-read n h = by (ltb n 10) refl where
  by : (t : Bool) → ltb n 10 ≡ t → digit_value (hex_digit n) ≡ n
  by true e = let small = ltb-true n 10 e in rw (e, le-leb (48 + n) 57 (omega arith)) (omega arith)
  by false e = let large = ltb-false n 10 e in rw (e, lt-leb (55 + n) 57 (omega arith)) (omega arith)

further : (a b : ℕ) (s : List ℕ) (k : ℕ) → pair_at (a ∷ b ∷ s) (suc (suc k)) ≡ pair_at s k
unfolding pair_at
further a b s k = simp add-one

pub pair_read : (s : List ℕ) → Octets s → (i : ℕ) → pair_at (hex s) (2 * i) ≡ octet s i
unfolding hex pair_at
pair_read [] h i = refl
pair_read (b ∷ s) h zero =
    let small : b < 256 = h 0 in
    rw (digit-read (b / 16) (omega arith), digit-read (b % 16) (omega arith)) (omega arith)
pair_read (b ∷ s) h (suc i) =
    let twice : 2 * suc i ≡ suc (suc (2 * i)) = omega arith in
    ap (pair_at (hex (b ∷ s))) twice ∙ further (hex_digit (b / 16)) (hex_digit (b % 16)) (hex s) (2 * i) ∙ pair_read s (λ j. h (suc j)) i

-- the CVR of an IAD's bytes
pub cvr_read : (iad : Iad) (s : List ℕ) → LaidOut iad s → Octets s → cvr_in (hex s) ≡ cvr_number iad.cvr
unfolding cvr_in cvr_number number
cvr_read iad s l h =
    omega (
      arith,
      pair_read s h 3 ∙ l.cvr1,
      pair_read s h 4 ∙ l.cvr2,
      pair_read s h 5 ∙ l.cvr3,
      pair_read s h 6 ∙ l.cvr4,
      pair_read s h 7 ∙ l.cvr5,
    )
