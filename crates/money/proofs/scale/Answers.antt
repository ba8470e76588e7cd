-- Below the ninth power the shift divides, from there on it multiplies; the products fit.
use mathlib.Core.Path.{ap, sym, ◌∙◌}
use Prim.Native.Nat.{ℕ, ◌*◌}
use native.Mathlib.Omega.{arith}
use lib.Pow.{pow-add}
use Rattle.money.specs.Money.{scaled}
use Rattle.money.proofs.Power.{ten_pos, divides, multiplies, product_most, power_most, shift_fits}
use Rattle.money.proofs.scale.Goals as goal

pub overflow_mul-product : goal.overflow_mul-product
overflow_mul-product c = let product = product_most c.requires.0 c.requires.1 in record { fits = omega arith }

pub overflow_mul-power : goal.overflow_mul-power
overflow_mul-power c =
    let l = c.loop in
    let power = power_most {k = l.counter} (omega arith) in
    record { fits = omega (arith, l.invariant.2) }

pub loop-preserved : goal.loop-preserved
loop-preserved c =
    let l = c.loop in
    (omega arith, l.invariant.1, ap (λ (power : ℕ). power * 10) l.invariant.2 ∙ sym (pow-add 10 l.counter 1), l.invariant.3)

pub divide-requires : goal.divide-requires
divide-requires c =
    let l = c.loop in
    let power = power_most {k = l.counter} (omega arith) in
    (rw l.invariant.2 (ten_pos _), omega (arith, l.invariant.2))

pub overflow_mul-result : goal.overflow_mul-result
overflow_mul-result c =
    let l = c.loop in
    rw l.invariant.2 (record { fits = shift_fits {k = l.counter} l.invariant.3 (omega arith) })

pub returns-then-rate-lt9 : goal.returns-then-rate-lt9
unfolding scaled
returns-then-rate-lt9 c = simp (c.divide.ensures, c.loop.invariant.2) (divides _ _ _ _ (omega arith))

pub returns-else-rate-lt9 : goal.returns-else-rate-lt9
unfolding scaled
returns-else-rate-lt9 c = simp c.loop.invariant.2 (multiplies _ _ _ _ (omega arith))
