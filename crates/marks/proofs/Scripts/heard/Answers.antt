use Rattle.std.proofs.Common.{sym, ◌∙◌, arith, rules}
use Rattle.marks.proofs.Marks.{heard-here}
use Rattle.marks.proofs.Masks.{is-heard}
use Rattle.marks.proofs.Scripts.heard.Goals as goal

pub returns-then-is_failed_here : goal.returns-then-is_failed_here
returns-then-is_failed_here c = sym (heard-here _ (sym c.is_failed_here.ensures ∙ c.if-is_failed_here.true))

pub returns : goal.returns
returns c = is-heard _ (omega arith) (sym c.is_failed_here.ensures ∙ c.if-is_failed_here.false)
