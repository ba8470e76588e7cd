use Rattle.command.specs.Command.{start_of}
use Rattle.command.proofs.read_start.Goals as goal

pub returns : goal.returns
unfolding start_of
returns c = simp (c.profile_named.ensures, c.interface_of.ensures)
