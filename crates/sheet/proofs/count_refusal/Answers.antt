use borrow.Author.Tests.{eq-eqb, ne_eqb, lt-ltb, le-ltb}
use Rattle.sheet.specs.Sheet.{refusal_counted}
use Rattle.sheet.proofs.count_refusal.Goals as goal

pub returns-then-number-eq0 : goal.returns-then-number-eq0
unfolding refusal_counted
returns-then-number-eq0 c = simp (eq-eqb _ _ c.if-number-eq0.true)

pub returns-then-number-gt-LAST_REFUSAL : goal.returns-then-number-gt-LAST_REFUSAL
unfolding refusal_counted
returns-then-number-gt-LAST_REFUSAL c = simp (ne_eqb _ _ c.if-number-eq0.false, lt-ltb _ _ c.if-number-gt-LAST_REFUSAL.true)

pub returns : goal.returns
unfolding refusal_counted
returns c =
    let known = c in
    simp (ne_eqb _ _ known.if-number-eq0.false, le-ltb _ _ known.if-number-gt-LAST_REFUSAL.false) c.count.ensures
