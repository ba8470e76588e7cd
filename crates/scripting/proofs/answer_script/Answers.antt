use borrow.Author.Rules.{rules}
use Rattle.scripting.specs.Scripting.{script_step, script_taken, script_writes, template_writes}
use Rattle.scripting.proofs.answer_script.Goals as goal

pub returns-in-Idle : goal.returns-in-Idle
unfolding script_step script_taken script_writes template_writes
returns-in-Idle c =
    let is = c.in-Idle.is in
    let taken = c.take_script.ensures in
    (simp (is, taken.0), simp (is) taken.1, simp (is) taken.2)

pub returns-in-Opened : goal.returns-in-Opened
unfolding script_step script_writes
returns-in-Opened c = let is = c.in-Opened.is in (simp (is, c.refuse.ensures), simp (is), simp (is))

pub returns-in-Asked : goal.returns-in-Asked
unfolding script_step script_taken script_writes template_writes
returns-in-Asked c =
    let is = c.in-Asked.is in
    let taken = c.take_script-in-Asked.ensures in
    (simp (is, taken.0), simp (is) taken.1, simp (is) taken.2)
