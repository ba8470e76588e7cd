use Rattle.journal.specs.Journal.{noted}
use Rattle.watching.proofs.note.Goals as goal

pub returns-then-is_wanted-is_logging : goal.returns-then-is_wanted-is_logging
unfolding noted
returns-then-is_wanted-is_logging c =
    let tested = c in
    let logging = tested in
    simp (← logging.is_logging.ensures, ← logging.is_wanted.ensures, tested.if-is_wanted-is_logging.true) c.add.ensures

pub returns-else-is_wanted-is_logging : goal.returns-else-is_wanted-is_logging
unfolding noted
returns-else-is_wanted-is_logging c =
    let logging = c in
    simp (← logging.is_logging.ensures, ← logging.is_wanted.ensures, c.if-is_wanted-is_logging.false)
