-- One of the two powers is 10 ^ 0.
use mathlib.Core.Path.{◌≡◌}
use Prim.Native.Nat.{◌-◌}
use native.Mathlib.Omega.{arith}
use Rattle.rate.specs.Rate.{digits_at}
use Rattle.rate.proofs.Power.{ten_le}
use Rattle.rate.proofs.digits_at.Goals as goal

pub returns-then-shift-le9 : goal.returns-then-shift-le9
unfolding digits_at
returns-then-shift-le9 c =
    let shift = c.args.shift in
    let none : shift - 9 ≡ 0 = omega arith in
    rw none (simp (c.digits_of.ensures, c.power_of_ten.ensures))

pub digits_of-requires-else-shift-le9 : goal.digits_of-requires-else-shift-le9
digits_of-requires-else-shift-le9 c = rw c.power_of_ten-else-shift-le9.ensures (ten_le (c.args.shift - 9) 3 (omega arith))

pub returns-else-shift-le9 : goal.returns-else-shift-le9
unfolding digits_at
returns-else-shift-le9 c =
    let shift = c.args.shift in
    let none : 9 - shift ≡ 0 = omega arith in
    rw none (simp (c.digits_of-else-shift-le9.ensures, c.power_of_ten-else-shift-le9.ensures))
