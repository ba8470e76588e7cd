use native.Mathlib.Omega.{arith}
use borrow.Author.Rules.{rules}
use borrow.Author.Tests.{eq-eqb, ne_eqb, lt-ltb, le-ltb}
use Rattle.room.specs.Room.{left_in}
use Rattle.room.proofs.left.Goals as goal

pub returns-then-profile_number-eq0 : goal.returns-then-profile_number-eq0
unfolding left_in
returns-then-profile_number-eq0 c = rw (← c.profile_number.ensures) (simp (eq-eqb _ _ c.if-profile_number-eq0.true))

pub returns-then-value-upper : goal.returns-then-value-upper
unfolding left_in
returns-then-value-upper c =
    let tested = c in
    let asked = tested in
    let other = asked in
    rw (← other.profile_number.ensures, ← asked.accumulator_rule-rule.ensures)
    (simp (ne_eqb _ _ other.if-profile_number-eq0.false, lt-ltb _ _ tested.if-value-upper.true))

pub returns-else-value-upper : goal.returns-else-value-upper
unfolding left_in
returns-else-value-upper c =
    let asked = c in
    let other = asked in
    rw (← other.profile_number.ensures, ← asked.accumulator_rule-rule.ensures)
    (simp (ne_eqb _ _ other.if-profile_number-eq0.false, le-ltb _ _ c.if-value-upper.false))

pub overflow_sub-result : goal.overflow_sub-result
overflow_sub-result c = omega arith
