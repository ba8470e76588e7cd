use borrow.Author.Rules.{rules}
use Rattle.records.specs.Records.{answered_by}
use Rattle.records.proofs.answer.Goals as goal

pub returns-in-Err : goal.returns-in-Err
unfolding answered_by
returns-in-Err c = simp c.in-Err.is

pub returns-in-Ok : goal.returns-in-Ok
unfolding answered_by
returns-in-Ok c = simp (c.in-Ok.is, c.step-outcome.ensures)
