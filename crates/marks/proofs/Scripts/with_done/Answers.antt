use Rattle.std.proofs.Common.{arith}
use Rattle.marks.proofs.Masks.{is-done}
use Rattle.marks.proofs.Scripts.with_done.Goals as goal

pub returns : goal.returns
returns c = simp c.wrapping_add_u8.ensures.value (is-done _ (omega arith))
