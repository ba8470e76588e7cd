use borrow.Author.Tests.{eq-eqb, ne_eqb, lt-ltb, le-ltb}
use Rattle.sheet.specs.Sheet.{answer_counted}
use Rattle.sheet.proofs.count_answer.Goals as goal

pub returns-then-profile-eq0 : goal.returns-then-profile-eq0
unfolding answer_counted
returns-then-profile-eq0 c = simp (eq-eqb _ _ c.if-profile-eq0.true)

pub returns-then-profile-gt-LAST_PROFILE : goal.returns-then-profile-gt-LAST_PROFILE
unfolding answer_counted
returns-then-profile-gt-LAST_PROFILE c = simp (ne_eqb _ _ c.if-profile-eq0.false, lt-ltb _ _ c.if-profile-gt-LAST_PROFILE.true)

pub returns-then-kind-gt-LAST_KIND : goal.returns-then-kind-gt-LAST_KIND
unfolding answer_counted
returns-then-kind-gt-LAST_KIND c =
    let known = c in
    simp (ne_eqb _ _ known.if-profile-eq0.false, le-ltb _ _ known.if-profile-gt-LAST_PROFILE.false, lt-ltb _ _ c.if-kind-gt-LAST_KIND.true)

pub returns : goal.returns
unfolding answer_counted
returns c =
    let kind = c in
    let known = kind in
    simp (ne_eqb _ _ known.if-profile-eq0.false, le-ltb _ _ known.if-profile-gt-LAST_PROFILE.false, le-ltb _ _ kind.if-kind-gt-LAST_KIND.false) c.count.ensures
