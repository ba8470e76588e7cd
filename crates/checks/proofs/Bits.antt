-- Flags packed into a number: its bits and its size; what it is to meet a mask. Assumes nothing.
use mathlib.Core.Path.{◌≡◌, sym, ap, ◌∙◌}
use mathlib.Core.Bool.{Bool, true, false, not}
use mathlib.Core.List.{List, [], ◌∷◌}
use Prim.Native.Nat.{ℕ, zero, suc, ◌+◌, ◌*◌, ◌/◌, ◌%◌, ◌^◌, ◌<◌, min}
use native.Mathlib.Nat.{div-div-eq-div-mul, div-one, zero-div, pow-succ'}
use native.Mathlib.Omega.{arith}
use borrow.Author.Tests.{ne_eqb}
use lib.Bits.{bit_and, and_shr, and_step}
use lib.ListN.{length, get_or}
use Rattle.rules.specs.declared.Place.{Place}
use Rattle.rules.specs.declared.Values.{Values}
use Rattle.rules.specs.Rules.{Rules}
use Rattle.rules.proofs.Places.{each, both}
use Rattle.purchase.specs.declared.Purchase.{Purchase}
use Rattle.purchase.specs.Meter.{Meter, accumulator, counter, cyclic, IsMeter, is_date_error}
use Rattle.state.specs.declared.History.{History}
use Rattle.limits.specs.Limits.{bit, packed, exceeds_lower, exceeds_upper}
use Rattle.checks.specs.Checks.{meets_mask, lower_bit, upper_bit, maximum_exceeded, cashback_found}
use Rattle.limits.specs.Limits.{accumulators_lower, accumulators_upper, counters_lower, counters_upper, dating_flags}
use Rattle.checks.specs.Checks.{history_flags, decision_flags, test_bits, decision_bits}

-- bit k of a number
abbrev pub bit_of : ℕ → ℕ → ℕ
bit_of k n = n / 2 ^ k % 2

bit-small : (flag : Bool) → bit flag < 2
bit-small true = omega arith
bit-small false = omega arith

half : (flag : Bool) (n : ℕ) → (bit flag + 2 * n) / 2 ≡ n
half flag n = let h = bit-small flag in omega arith

odd : (flag : Bool) (n : ℕ) → (bit flag + 2 * n) % 2 ≡ bit flag
odd flag n = let h = bit-small flag in omega arith

-- bit k of packed flags is flag k
pub packed-bit : (flags : List Bool) (k : ℕ) → bit_of k (packed flags) ≡ bit (get_or flags k false)
packed-bit [] k = simp (zero-div)
packed-bit (flag ∷ flags) zero = simp (div-one) (odd flag (packed flags))
packed-bit (flag ∷ flags) (suc k) =
    ap (λ (m : ℕ). packed (flag ∷ flags) / m % 2) (pow-succ' 2 k)
    ∙ ap (λ (m : ℕ). m % 2) (sym (div-div-eq-div-mul (packed (flag ∷ flags)) 2 (2 ^ k)))
    ∙ ap (λ (m : ℕ). m / 2 ^ k % 2) (half flag (packed flags)) ∙ packed-bit flags k

-- a bit that is in both makes them meet
pub meets_at : (k adr mask : ℕ) → bit_of k adr ≡ 1 → bit_of k mask ≡ 1 → meets_mask adr mask ≡ true
meets_at k adr mask p q =
    ap not
    (ne_eqb (bit_and adr mask) 0
    (λ e.
    let z : bit_and (adr / 2 ^ k) (mask / 2 ^ k) ≡ 0 = sym (and_shr adr mask k) ∙ ap (λ (n : ℕ). n / 2 ^ k) e ∙ zero-div (2 ^ k) in
    let s = and_step (adr / 2 ^ k) (mask / 2 ^ k) in
    let w : min (bit_of k adr) (bit_of k mask) ≡ 1 = simp (p, q) in
    omega arith))

-- so does a flag whose bit is in the mask
pub flag_meets : (flags : List Bool) (k mask : ℕ) → get_or flags k false ≡ true → bit_of k mask ≡ 1 → meets_mask (packed flags) mask ≡ true
flag_meets flags k mask p q = meets_at k (packed flags) mask (packed-bit flags k ∙ ap bit p) q

pub packed-small : (flags : List Bool) → packed flags < 2 ^ length flags
packed-small [] = omega arith
packed-small (flag ∷ flags) =
    let h = bit-small flag in
    let t = packed-small flags in
    rw (pow-succ' 2 (length flags)) (omega arith)

module _ (rules : Rules) (place : Place) (values : Values) (purchase : Purchase) (history : History) where
  abbrev Lower : ℕ → Meter → Type 0
  Lower adr meter = bit_of (lower_bit meter) adr ≡ bit (exceeds_lower rules place values purchase meter)

  abbrev Upper : ℕ → Meter → Type 0
  Upper adr meter = bit_of (upper_bit meter) adr ≡ bit (exceeds_upper rules place values purchase meter)

  -- document 01's list of the decision bits, with those of requests Five and Thirteen; no bit stands above 25
  pub record HouseOrder (adr : ℕ) : Type 0 where
    pub uncompleted : bit_of 0 adr ≡ bit history.uncompleted
    pub online : bit_of 1 adr ≡ bit history.online
    pub failed : bit_of 2 adr ≡ bit history.failed
    pub unable : bit_of 3 adr ≡ bit history.unable
    pub missing : bit_of 4 adr ≡ bit history.missing
    pub maximum : bit_of 5 adr ≡ bit (maximum_exceeded rules place purchase)
    pub lower : (meter : Meter) → IsMeter meter → bit_of (lower_bit meter) adr ≡ bit (exceeds_lower rules place values purchase meter)
    pub upper : (meter : Meter) → IsMeter meter → bit_of (upper_bit meter) adr ≡ bit (exceeds_upper rules place values purchase meter)
    pub date_error_lem : bit_of 24 adr ≡ bit (is_date_error purchase.timing)
    pub cashback : bit_of 25 adr ≡ bit (cashback_found rules place purchase)
    pub rest : adr < 2 ^ 26

  abbrev Adr : ℕ
  Adr = packed (decision_flags rules place values purchase history)

  flag : (k : ℕ) → bit_of k Adr ≡ bit (get_or (decision_flags rules place values purchase history) k false)
  flag = packed-bit (decision_flags rules place values purchase history)

  lower-bits : (meter : Meter) → IsMeter meter → Lower Adr meter
  unfolding accumulators_lower accumulators_upper counters_lower counters_upper dating_flags
  lower-bits (accumulator i) l = each (λ i. Lower Adr (accumulator i)) (flag 6) (flag 7) (flag 8) (flag 9) i l
  lower-bits (counter i) l = each (λ i. Lower Adr (counter i)) (flag 14) (flag 15) (flag 16) (flag 17) i l
  lower-bits (cyclic i) l = both (λ i. Lower Adr (cyclic i)) (flag 22) (flag 23) i l

  upper-bits : (meter : Meter) → IsMeter meter → Upper Adr meter
  unfolding accumulators_lower accumulators_upper counters_lower counters_upper dating_flags
  upper-bits (accumulator i) l = each (λ i. Upper Adr (accumulator i)) (flag 10) (flag 11) (flag 12) (flag 13) i l
  upper-bits (counter i) l = each (λ i. Upper Adr (counter i)) (flag 18) (flag 19) (flag 20) (flag 21) i l
  upper-bits (cyclic i) l = both (λ i. Upper Adr (cyclic i)) (flag 22) (flag 23) i l

  pub house_order : HouseOrder (decision_bits rules place values purchase history)
  unfolding decision_bits accumulators_lower accumulators_upper counters_lower counters_upper dating_flags
  house_order =
      record {
        uncompleted = flag 0;
        online = flag 1;
        failed = flag 2;
        unable = flag 3;
        missing = flag 4;
        maximum = flag 5;
        lower = lower-bits;
        upper = upper-bits;
        date_error_lem = flag 24;
        cashback = flag 25;
        rest = packed-small (decision_flags rules place values purchase history);
      }

-- the history's bits and the tests' are the decision bits
pub bits-apart : (rules : Rules) (place : Place) (values : Values) (purchase : Purchase) (history : History)
    → packed (history_flags history) + test_bits rules place values purchase ≡ decision_bits rules place values purchase history
unfolding test_bits decision_bits accumulators_lower accumulators_upper counters_lower counters_upper dating_flags
bits-apart rules place values purchase history = omega arith
