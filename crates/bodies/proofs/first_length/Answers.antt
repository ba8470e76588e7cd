use borrow.Author.Rules.{rules}
use Rattle.bodies.proofs.first_length.Goals as goal

pub returns-then-is_cpace : goal.returns-then-is_cpace
returns-then-is_cpace c = simp (← c.is_cpace.ensures, c.if-is_cpace.true, c.plain_length-plain.ensures.0)

pub returns-else-is_cpace : goal.returns-else-is_cpace
returns-else-is_cpace c = simp (← c.is_cpace.ensures, c.if-is_cpace.false, c.plain_length-plain.ensures.0)
