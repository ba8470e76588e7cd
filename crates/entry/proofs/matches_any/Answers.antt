use mathlib.Core.Path.{sym, ◌∙◌}
use Rattle.entry.proofs.Compared.{is-told, none_left, found, passed}
use Rattle.entry.proofs.matches_any.Goals as goal

pub loop-i-init : goal.loop-i-init
loop-i-init c = rw c.byte_at-i-end.ensures

pub returns-then-is_eq : goal.returns-then-is_eq
returns-then-is_eq c =
    let same = is-told _ _ _ _ c.compare.ensures c.is_eq.ensures in
    sym (found _ _ _ _ c.loop-i-test.true (same ∙ c.if-is_eq.true)) ∙ c.loop-i.invariant

pub loop-i-preserved : goal.loop-i-preserved
loop-i-preserved c =
    let same = is-told _ _ _ _ c.compare.ensures c.is_eq.ensures in
    sym (passed _ _ _ _ c.loop-i-test.true (same ∙ c.if-is_eq.false)) ∙ c.loop-i.invariant

pub returns : goal.returns
returns c = sym (none_left _ _ _ _ c.loop-i-test.false) ∙ c.loop-i.invariant
