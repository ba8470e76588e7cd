use borrow.Author.Rules.{rules}
use Rattle.sales.proofs.offline_command.Goals as goal

pub returns-in-Second : goal.returns-in-Second
returns-in-Second c = let told = c in simp told.in-Second.is

pub returns-in-Start : goal.returns-in-Start
returns-in-Start c = search rules

pub returns-in-First : goal.returns-in-First
returns-in-First c = search rules
