-- Fourteen bytes are zeros where the eight, four and two that they are made of are.
use Rattle.iad.proofs.Runs.{zeros_split}
use Rattle.iad.proofs.are_zeros.Goals as goal

pub returns : goal.returns
returns c =
    let eight = c in
    let s = eight.args.s.now in
    simp (zeros_split s 18 12 2, zeros_split s 18 8 4, c.u16_at.ensures, c.u32_at.ensures, eight.u64_at.ensures)
