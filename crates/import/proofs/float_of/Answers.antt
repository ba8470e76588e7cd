use mathlib.Core.Bool.{Bool, not}
use mathlib.Core.Path.{sym, subst}
use lib.Dec.{T}
use lib.Ieee.{of_bits, div}
use Rattle.import.proofs.Patterns.{above_nan, below_nan}
use Rattle.import.proofs.float_of.Goals as goal

pub float_from_bits-result : goal.float_from_bits-result
float_from_bits-result c = subst (λ (b : Bool). T (not b)) (sym (below_nan _ c.if-bits-le9218868437227405312.true)) tt

pub returns-else-bits-le9218868437227405312 : goal.returns-else-bits-le9218868437227405312
unfolding div of_bits
returns-else-bits-le9218868437227405312 c = sym (above_nan _ c.if-bits-le9218868437227405312.false)
