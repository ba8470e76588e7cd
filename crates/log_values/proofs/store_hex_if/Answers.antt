use mathlib.Core.Path.{refl}
use native.Mathlib.Omega.{arith}
use Rattle.hex_digits.specs.Hex.{hex}
use Rattle.log_values.proofs.store_hex_if.Goals as goal

pub returns-then-on : goal.returns-then-on
returns-then-on c =
    let put = c in
    rw put.if-on.true put.store_hex.ensures

pub returns-else-on : goal.returns-else-on
unfolding hex
returns-else-on c = rw c.if-on.false (record { is = refl; behind = omega arith; short = omega arith })
