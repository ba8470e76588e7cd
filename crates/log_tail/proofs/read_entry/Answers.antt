use Rattle.log_tail.specs.LogTail.{entry_in}
use Rattle.log_tail.proofs.read_entry.Goals as goal

pub returns : goal.returns
unfolding entry_in
returns c =
    let third = c in
    let second = third in
    simp (third.byte_at-3.ensures, second.byte_at-2.ensures, second.byte_at.ensures)
