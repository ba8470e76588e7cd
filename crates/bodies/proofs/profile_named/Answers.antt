use borrow.Author.Rules.{rules}
use Rattle.bodies.proofs.profile_named.Goals as goal

pub returns-in-Cpa : goal.returns-in-Cpa
returns-in-Cpa c = simp (c.in-Cpa.is, c.byte_at.ensures)

pub returns-in-Cpace : goal.returns-in-Cpace
returns-in-Cpace c = simp (c.in-Cpace.is, c.byte_at-in-Cpace.ensures)
