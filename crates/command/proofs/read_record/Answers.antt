use mathlib.Core.Path.{sym, ◌∙◌}
use Rattle.command.specs.Command.{slots_of, command_in}
use Rattle.command.proofs.Selecting.{selected, unselected}
use Rattle.command.proofs.read_record.Goals as goal

pub returns-then-selects : goal.returns-then-selects
unfolding command_in
returns-then-selects c =
    let tested = c in
    let a = tested.args in
    let told = sym tested.selects.ensures ∙ c.if-selects.true in
    simp (
      selected a.shape.selecting a.shape.dating a.shape.family (slots_of a.shape.family a.values) a.paper.now a.kind a.body.now told,
      c.read_selecting.ensures,
    )

pub returns : goal.returns
unfolding command_in
returns c =
    let tested = c in
    let a = tested.args in
    let told = sym tested.selects.ensures ∙ c.if-selects.false in
    simp (
      unselected a.shape.selecting a.shape.dating a.shape.family (slots_of a.shape.family a.values) a.paper.now a.kind a.body.now told,
      c.read_command.ensures,
    )
