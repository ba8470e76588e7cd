-- The answer without a search: digits that name a rate and do not end in 0, or are undivided, are the ones given. Worked examples. Assumes nothing.
use mathlib.Core.Path.{◌≡◌, refl, sym, ap, ◌∙◌}
use mathlib.Core.Logic.{◌⊎◌, inl, inr}
use Prim.Native.Nat.{ℕ, zero, suc, ◌+◌, ◌-◌, ◌*◌, ◌%◌, ◌^◌, ◌≤◌, ◌<◌}
use native.Mathlib.Nat.{mul-one, mul_assoc, mul-mod_left, eq_of_mul-eq-mul_right, pow-suc}
use native.Mathlib.Omega.{arith}
use lib.Dec.{T}
use lib.Pow.{pow-add}
use lib.Ieee.{Float, binary64, fits, of_bits, round}
use lib.Ieee.Bits.{of_bits-fits}
use borrow.Author.Tests.{le-leb}
use Rattle.rate.specs.Rate.{shift_at, rate_of}
use Rattle.rate.specs.Taken.{Quotient}
use Rattle.rate.proofs.Power.{ten_pos}
use Rattle.rate.proofs.Names.{Names}
use Rattle.rate.proofs.Exactly.{placed, refused, taken, earliest}
use Rattle.rate.proofs.Decimal.{one-decimal}
use Rattle.rate.proofs.Request.{place-quotient, quotient-names}
use Rattle.std.specs.Prelude.{None, Option, Some}
use Rattle.rate.specs.declared.Pair.{Pair}

-- d' * 10 ^ (u + t) = d * 10 ^ t
cut : (d' d u t : ℕ) → d' * 10 ^ (u + t) ≡ d * 10 ^ t → d' * 10 ^ u ≡ d
cut d' d u t e =
    eq_of_mul-eq-mul_right (10 ^ t) (ten_pos t) (d' * 10 ^ u) d
    (mul_assoc d' (10 ^ u) (10 ^ t) ∙ ap (λ (z : ℕ). d' * z) (sym (pow-add 10 u t)) ∙ e)

ends_in_zero : (d' d u : ℕ) → d' * 10 ^ suc u ≡ d → d % 10 ≡ 0
ends_in_zero d' d u e =
    ap (λ (z : ℕ). z % 10) (sym e ∙ ap (λ (z : ℕ). d' * z) (pow-suc 10 u) ∙ sym (mul_assoc d' (10 ^ u) 10)) ∙ mul-mod_left (d' * 10 ^ u) 10

abbrev pair : ℕ → ℕ → Option Pair
pair digits shift = Some (record { digits = digits; shift = shift })

same-pair : (d' d t u : ℕ) → (0 < u → d % 10 ≡ 0 → ⊥) → d' * 10 ^ u ≡ d → pair d' (u + t) ≡ pair d t
same-pair d' d t zero c e =
    let f : d' ≡ d = sym (mul-one d') ∙ e in
    let g : 0 + t ≡ t = omega arith in
    rw (f, g) refl
same-pair d' d t (suc u) c e = absurd (c (omega arith) (ends_in_zero d' d u e))

module _ (rate : Float) (held : T (fits binary64 rate)) where
  pub settled : (digits e : ℕ) → Quotient rate digits e → (e ≡ 0) ⊎ (digits % 10 ≡ 0 → ⊥) → rate_of rate ≡ pair digits (9 - e)
  settled digits e q bare = by (rate_of rate) refl where
    named : Names rate digits (9 - e)
    named = quotient-names rate digits e q

    by : (found : Option Pair) → rate_of rate ≡ found → rate_of rate ≡ pair digits (9 - e)
    by None h = absurd (refused rate h digits (9 - e) named)
    by (Some found) h =
        let n = taken rate held found.digits found.shift h in
        let bound = q.bound in
        let place = shift_at found.shift in
        let first : place ≤ e = rw (place-quotient e bound) at (earliest rate found.digits found.shift h digits (9 - e) named) in
        let back = (placed found.shift n.range.bound).back in
        let here : shift_at place ≡ 9 - place = simp (le-leb place 9 (omega arith)) in
        let u = e - place in
        let there : u + (9 - e) ≡ found.shift = omega arith in
        let same : found.digits * 10 ^ u ≡ digits =
        cut found.digits digits u (9 - e) (ap (λ (z : ℕ). found.digits * 10 ^ z) there ∙ one-decimal rate found.digits found.shift digits (9 - e) n named) in
        h ∙ ap (λ (z : ℕ). pair found.digits z) (sym there)
        ∙ same-pair found.digits digits (9 - e) u (λ some z. elim bare [ inl none ↦ (let never : ⊥ = omega arith in never) | inr ends ↦ ends z ]) same

-- ---- worked examples, each by one rounding
abbrev example : ℕ → ℕ → ℕ → Type 0
example bits digits shift = rate_of (of_bits binary64 bits) ≡ pair digits shift

by_rounding : (bits digits e : ℕ) → Quotient (of_bits binary64 bits) digits e → (e ≡ 0) ⊎ (digits % 10 ≡ 0 → ⊥) → example bits digits (9 - e)
by_rounding bits = settled (of_bits binary64 bits) (of_bits-fits binary64 bits)

-- 0.85, 0.0085 and 1
pub euro : example 0x3FEB_3333_3333_3333 85 7
unfolding round of_bits
euro =
    by_rounding 0x3FEB_3333_3333_3333 85 2 (record { least = omega arith; most = omega arith; bound = omega arith; rounded = refl }) (inr (λ z. omega arith))

pub yen : example 0x3F81_6872_B020_C49C 85 5
unfolding round of_bits
yen = by_rounding 0x3F81_6872_B020_C49C 85 4 (record { least = omega arith; most = omega arith; bound = omega arith; rounded = refl }) (inr (λ z. omega arith))

pub one : example 0x3FF0_0000_0000_0000 1 9
unfolding round of_bits
one = by_rounding 0x3FF0_0000_0000_0000 1 0 (record { least = omega arith; most = omega arith; bound = omega arith; rounded = refl }) (inl refl)
