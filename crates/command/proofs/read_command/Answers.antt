-- The branches are those of the definition.
use Rattle.command.specs.Command.{command_of}
use Rattle.command.proofs.read_command.Goals as goal

pub returns-then-kind-body : goal.returns-then-kind-body
unfolding command_of
returns-then-kind-body c = simp (← c.start_length.ensures, c.if-kind-body.true, c.read_start.ensures)

pub returns-then-kind-body-2 : goal.returns-then-kind-body-2
unfolding command_of
returns-then-kind-body-2 c =
    let asked = c in
    let other = asked in
    simp (
      ← other.start_length.ensures,
      other.if-kind-body.false,
      ← asked.first_length.ensures,
      c.if-kind-body-2.true,
      c.read_first.ensures,
    )

pub returns-then-kind-body-3 : goal.returns-then-kind-body-3
unfolding command_of
returns-then-kind-body-3 c =
    let asked = c in
    let other = asked in
    simp (
      ← other.start_length.ensures,
      other.if-kind-body.false,
      ← asked.first_length.ensures,
      c.if-kind-body-2.false,
      c.if-kind-body-3.true,
      c.read_second.ensures,
    )

pub returns : goal.returns
unfolding command_of
returns c =
    let asked = c in
    let other = asked in
    simp (
      ← other.start_length.ensures,
      other.if-kind-body.false,
      ← asked.first_length.ensures,
      c.if-kind-body-2.false,
      c.if-kind-body-3.false,
    )
