use borrow.Author.Rules.{rules}
use Rattle.closing.proofs.recover.Goals as goal

pub returns-in-Undated : goal.returns-in-Undated
returns-in-Undated c = simp c.in-Undated.is

pub returns-in-InOrder : goal.returns-in-InOrder
returns-in-InOrder c = simp c.in-InOrder.is

pub returns-then-approves : goal.returns-then-approves
returns-then-approves c = simp (c.in-DateError.is, c.if-approves.true)

pub returns-else-approves : goal.returns-else-approves
returns-else-approves c = simp (c.in-DateError.is, c.if-approves.false)
