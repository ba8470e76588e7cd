use Rattle.import.specs.Import.{old_record}
use Rattle.import.proofs.old_record.Goals as goal

pub returns : goal.returns
unfolding old_record
returns c =
    let floats = c in
    simp (
      c.u16_at-2.ensures,
      c.u16_at.ensures,
      floats.float_of-2.ensures,
      floats.u64_at-2.ensures,
      floats.float_of.ensures,
      floats.u64_at.ensures,
    )
