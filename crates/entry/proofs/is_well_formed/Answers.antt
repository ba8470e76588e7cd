use Rattle.entry.specs.Entry.{is_well_formed}
use Rattle.entry.proofs.Facts.{ends}
use Rattle.entry.proofs.is_well_formed.Goals as goal

pub returns : goal.returns
unfolding is_well_formed
returns c =
    let end = c in
    let size = end in
    simp (
      c.byte_at-3.ensures,
      c.byte_at-2.ensures,
      c.check_type.ensures,
      end.byte_at.ensures,
      size.byte_at-length.ensures,
      ends size.args.entry.now _ end.blocks_end.ensures.0,
    )
