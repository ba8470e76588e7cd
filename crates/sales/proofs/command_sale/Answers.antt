use borrow.Author.Rules.{rules}
use Rattle.sales.proofs.command_sale.Goals as goal

pub returns-then-given : goal.returns-then-given
returns-then-given c = simp (c.in-First.is, c.if-given.true)

pub returns-in-Start : goal.returns-in-Start
returns-in-Start c = search rules

pub returns-else-given : goal.returns-else-given
returns-else-given c = search rules

pub returns-in-Second : goal.returns-in-Second
returns-in-Second c = search rules
