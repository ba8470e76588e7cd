-- Each field is the number at its place.
use Rattle.command.specs.Command.{second_of}
use Rattle.command.proofs.read_second.Goals as goal

pub returns : goal.returns
unfolding second_of
returns c = simp (c.byte_at-2.ensures, c.byte_at.ensures, c.u16_at.ensures, c.u32_at.ensures)
