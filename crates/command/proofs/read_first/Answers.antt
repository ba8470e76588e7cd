-- Each field is the number at its place.
use Rattle.command.specs.Command.{first_of}
use Rattle.command.proofs.read_first.Goals as goal

pub returns : goal.returns
unfolding first_of
returns c =
    let read = c in
    let terminal = read in
    simp (
      c.read_cashback.ensures,
      c.read_cvm.ensures,
      read.read_when.ensures,
      terminal.byte_at-2.ensures,
      terminal.byte_at.ensures,
      terminal.u16_at.ensures,
      terminal.u64_at.ensures,
    )
