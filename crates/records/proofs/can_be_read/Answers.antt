use borrow.Author.Rules.{rules}
use borrow.Author.Tests.{eq-eqb}
use Rattle.records.proofs.Scripts.{not_script}
use Rattle.records.proofs.can_be_read.Goals as goal

pub returns-then-kind-eq-SCRIPT : goal.returns-then-kind-eq-SCRIPT
returns-then-kind-eq-SCRIPT c = simp (c.if-shape.true, eq-eqb _ _ c.if-kind-eq-SCRIPT.true)
