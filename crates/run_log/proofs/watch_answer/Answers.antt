use borrow.Author.Tests.{eq-eqb, ne_eqb}
use Rattle.run_log.specs.RunLog.{watched_answer}
use Rattle.run_log.proofs.watch_answer.Goals as goal

pub returns-then-byte_at-eq0 : goal.returns-then-byte_at-eq0
unfolding watched_answer
returns-then-byte_at-eq0 c =
    let tested = c in
    rw (← tested.byte_at.ensures, eq-eqb _ _ tested.if-byte_at-eq0.true, ← c.given_by.ensures) c.watch.ensures

pub returns-else-byte_at-eq0 : goal.returns-else-byte_at-eq0
unfolding watched_answer
returns-else-byte_at-eq0 c = rw (← c.byte_at.ensures, ne_eqb _ _ c.if-byte_at-eq0.false)
