use borrow.Author.Rules.{rules}
use Rattle.begun.proofs.event_of.Goals as goal

pub returns-in-Ok : goal.returns-in-Ok
returns-in-Ok c = simp c.in-Ok.is

pub returns-in-Err : goal.returns-in-Err
returns-in-Err c = simp c.in-Err.is
