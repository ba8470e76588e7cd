use borrow.Author.Tests.{eq-eqb, ne_eqb}
use Rattle.rules.proofs.place_or.Goals as goal

pub returns-then-profile_number-number : goal.returns-then-profile_number-number
returns-then-profile_number-number c = rw (← c.profile_number.ensures) (simp (eq-eqb _ _ c.if-profile_number-number.true))

pub returns-else-profile_number-number : goal.returns-else-profile_number-number
returns-else-profile_number-number c = rw (← c.profile_number.ensures) (simp (ne_eqb _ _ c.if-profile_number-number.false))
