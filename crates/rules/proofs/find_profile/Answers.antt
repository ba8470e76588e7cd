use borrow.Author.Tests.{eq-eqb, ne_eqb}
use Rattle.rules.specs.Rules.{find_profile}
use Rattle.rules.proofs.find_profile.Goals as goal

pub returns-then-number-eq0 : goal.returns-then-number-eq0
unfolding find_profile
returns-then-number-eq0 c = simp (eq-eqb _ _ c.if-number-eq0.true)

pub returns : goal.returns
unfolding find_profile
returns c =
    let fourth = c in
    simp (
      c.place_or.ensures,
      c.place_or-second.ensures,
      c.place_or-third.ensures,
      fourth.place_or-fourth.ensures,
      ne_eqb _ _ fourth.if-number-eq0.false,
    )
