use borrow.Author.Rules.{rules}
use Rattle.put_data.specs.PutData.{is_valid}
use Rattle.script.specs.Script.{done}
use Rattle.script.proofs.is_done.Goals as goal

pub returns-then-verified-is_failed_here : goal.returns-then-verified-is_failed_here
unfolding done is_valid
returns-then-verified-is_failed_here c = rw (← c.is_failed_here.ensures) (simp (c.if-verified-is_failed_here.true, c.is_valid.ensures))

pub returns : goal.returns
unfolding done
returns c = rw (← c.is_failed_here.ensures) (simp c.if-verified-is_failed_here.false)
