use borrow.Author.Rules.{rules}
use Rattle.block.specs.Block.{is_slot_sound}
use Rattle.block.proofs.is_sound.Goals as goal

pub returns : goal.returns
unfolding is_slot_sound
returns c =
    let check = c in
    let length = check in
    simp (
      c.block_fits.ensures,
      c.slot_of.ensures,
      check.check_type.ensures,
      check.byte_at-2.ensures,
      check.byte_at.ensures,
      length.byte_at-length.ensures,
    )
