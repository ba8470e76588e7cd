use native.Mathlib.Omega.{arith}
use lib.ListN.{length-set}
use Rattle.rules.specs.Limits.{limits_put}
use Rattle.new_limits.proofs.put_limits.Goals as goal

pub bounds-words-at-2 : goal.bounds-words-at-2
bounds-words-at-2 c = simp length-set (omega arith)

pub returns : goal.returns
unfolding limits_put
returns c = simp c.base.ensures.0
