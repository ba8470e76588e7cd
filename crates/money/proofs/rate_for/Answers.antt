use mathlib.Core.Path.{sym, ◌∙◌}
use native.Mathlib.Omega.{arith}
use Rattle.money.proofs.Search.{ended, found, passed}
use Rattle.money.proofs.rate_for.Goals as goal

pub returns-then-is_for : goal.returns-then-is_for
returns-then-is_for c =
    sym (found _ _ _ c.loop-rate.rate-index (omega arith) (sym c.is_for.ensures ∙ c.if-is_for.true)) ∙ c.loop-rate.invariant

pub loop-rate-preserved : goal.loop-rate-preserved
loop-rate-preserved c =
    sym (passed _ _ _ c.loop-rate.rate-index (omega arith) (sym c.is_for.ensures ∙ c.if-is_for.false)) ∙ c.loop-rate.invariant

pub returns : goal.returns
returns c = sym (ended _ _ _ c.loop-rate.rate-index (omega arith)) ∙ c.loop-rate.invariant
