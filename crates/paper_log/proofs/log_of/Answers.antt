use Rattle.paper_log.specs.Log.{log_of}
use Rattle.paper_log.proofs.log_of.Goals as goal

pub returns-in-None : goal.returns-in-None
unfolding log_of
returns-in-None c =
    let none = c in
    simp (none.in-None.is, c.form_of.ensures, none.no_logging.ensures)

pub returns-in-Some : goal.returns-in-Some
unfolding log_of
returns-in-Some c =
    let what = c in
    let tail = what in
    simp (tail.in-Some.is, c.form_of-in-Some.ensures, what.logging_in.ensures, tail.tail_at.ensures.0)
