use borrow.Author.Rules.{rules}
use borrow.Author.Tests.{eq-eqb}
use mathlib.Core.Path.{ap, ◌∙◌}
use Rattle.records.specs.Records.{answered_by}
use Rattle.records.proofs.Scripts.{not_script}
use Rattle.records.proofs.take.Goals as goal

pub returns-then-kind-eq-SCRIPT : goal.returns-then-kind-eq-SCRIPT
returns-then-kind-eq-SCRIPT c =
    let five = eq-eqb _ _ c.if-kind-eq-SCRIPT.true in
    let on = c.if-shape.true in
    let taken = c.take_script.ensures in
    (simp (on, five) taken.0, simp (on, five) taken.1, simp (on, five) taken.2)
