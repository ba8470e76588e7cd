-- An MTA is taken exactly when it is the float of a whole number up to MAX, and stays that number. Assumes nothing.
use Rattle.std.proofs.Common.{◌≡◌, ℕ, ◌≤◌, Bool, true, false, cond, ◌&&◌, T, leb, ℤ, pos, sym, refl, ap, ◌∙◌, subst, arith, le-leb, leb-true}
use lib.Ieee.{Float, nan, inf, fin, binary64, fits, of_int, in_unsigned, to_unsigned}
use lib.Ieee.Bits.{is_true}
use lib.Ieee.Back.{unsigned_back, Float-back_unsigned}
use Rattle.money.specs.Money.{max}
use Rattle.mta.specs.Mta.{mta_of}
use Rattle.mta.proofs.Tests.{in_float_lem, and_false}
use Rattle.std.specs.Prelude.{None, Option, Some}
use Rattle.money.specs.declared.AccumulatorAmount.{AccumulatorAmount}

pub whole-taken : (n : ℕ) → n ≤ max → mta_of (of_int binary64 (pos n)) ≡ Some (record { 0 = n })
unfolding mta_of
whole-taken n h =
    let b = unsigned_back binary64 64 n (in_float_lem n h) (omega arith) in
    simp (is_true (in_unsigned binary64 64 (of_int binary64 (pos n))) b.0, b.1, le-leb n max h)

abbrev amount_of : ℕ → Option AccumulatorAmount
amount_of n = Some (record { 0 = n })

-- the number of an amount
abbrev inside : Option AccumulatorAmount → ℕ
inside (Some amount) = amount.0
inside None = 0

pick : (a b : Bool) (k n : ℕ) → cond (a && b) (amount_of k) None ≡ amount_of n
    → (a ≡ true) × (b ≡ true) × (k ≡ n)
pick true true k n e = (refl, refl, ap inside e)
pick true false k n e = let z : ◌≡◌ {A = ℕ} 0 1 = cc in absurd (omega arith)
pick false b k n e = let z : ◌≡◌ {A = ℕ} 0 1 = cc in absurd (omega arith)

pub taken-whole : (mta : Float) → T (fits binary64 mta) → (n : ℕ) → mta_of mta ≡ Some (record { 0 = n })
    → (mta ≡ of_int binary64 (pos n)) × (n ≤ max)
unfolding mta_of
taken-whole mta f n h =
    let k = pick (in_unsigned binary64 64 mta) (leb (to_unsigned 64 mta) max) (to_unsigned 64 mta) n h in (
      sym (Float-back_unsigned binary64 64 mta f (subst T (sym k.0) tt)).1 ∙ ap (λ (m : ℕ). of_int binary64 (pos m)) k.2,
      subst (λ (m : ℕ). m ≤ max) k.2 (leb-true _ _ k.1),
    )

-- not-a-number, infinities, and anything negative, -0 among it, never get through
pub never_nan : mta_of nan ≡ None
unfolding mta_of in_unsigned
never_nan = refl

pub never_infinite : (sign : Bool) → mta_of (inf sign) ≡ None
unfolding mta_of in_unsigned
never_infinite sign = refl

pub never_negative : (m : ℕ) (e : ℤ) → mta_of (fin true m e) ≡ None
unfolding mta_of in_unsigned
never_negative m e = simp and_false
