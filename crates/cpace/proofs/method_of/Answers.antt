use borrow.Author.Rules.{rules}
use borrow.Author.Tests.{ne_eqb}
use Rattle.cpace.proofs.method_of.Goals as goal

pub returns-in-2 : goal.returns-in-2
returns-in-2 c = simp c.in-2.is

pub returns-in-30 : goal.returns-in-30
returns-in-30 c = simp c.in-30.is
