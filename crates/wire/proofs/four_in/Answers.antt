-- The number's four bytes.
use mathlib.Core.Path.{◌∙◌}
use native.Mathlib.Omega.{arith}
use Rattle.wire.proofs.Numbers.{four}
use Rattle.wire.proofs.four_in.Goals as goal

pub returns : goal.returns
returns c = c.from_be_bytes.ensures ∙ omega (arith, four c.args.s.now c.args.at)
