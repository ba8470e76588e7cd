use borrow.Author.Rules.{rules}
use Rattle.scripting.specs.Scripting.{script_performed}
use Rattle.scripting.proofs.run_script.Goals as goal

pub returns : goal.returns
unfolding script_performed
returns c = let ran = c.run-ran.ensures in (simp ran.0, ran.1, ran.2)
