use Rattle.command.specs.Command.{start_selected}
use Rattle.command.proofs.read_selecting.Goals as goal

pub returns-then-is_cpace-body : goal.returns-then-is_cpace-body
unfolding start_selected
returns-then-is_cpace-body c = simp (← c.is_cpace.ensures, c.if-is_cpace-body.true)

pub returns : goal.returns
unfolding start_selected
returns c =
    let chosen = c in
    let told = chosen in
    simp (
      ← told.is_cpace.ensures,
      told.if-is_cpace-body.false,
      c.interface_of.ensures,
      chosen.select_profile-chosen.ensures,
      chosen.slots_of.ensures,
    )
