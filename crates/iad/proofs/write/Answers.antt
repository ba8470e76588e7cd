-- The three answers in their order, and what the room holds after each.
use mathlib.Core.Path.{sym, ◌∙◌, ap}
use borrow.Author.Tests.{lt-ltb, le-ltb}
use lib.ListN.{length}
use Rattle.std.proofs.lemmas.List.{length-take-le}
use Rattle.iad.specs.Iad.{write_iad, written, iad_bytes, pairs_of}
use Rattle.iad.proofs.write.Goals as goal

pub returns-then-not-is_writable : goal.returns-then-not-is_writable
unfolding write_iad written
returns-then-not-is_writable c =
    let no = sym c.is_writable.ensures ∙ c.if-not-is_writable.true in
    (simp no, simp no)

pub returns-then-room-lt-LENGTH : goal.returns-then-room-lt-LENGTH
unfolding write_iad written
returns-then-room-lt-LENGTH c =
    let yes = sym c.is_writable.ensures ∙ c.if-not-is_writable.false in
    let small = lt-ltb _ _ c.if-room-lt-LENGTH.true in
    (simp (yes, small), simp (yes, small))

pub copy_from_slice-requires : goal.copy_from_slice-requires
unfolding iad_bytes pairs_of
copy_from_slice-requires c =
    length-take-le 32 c.args.room.now c.if-room-lt-LENGTH.false ∙ sym (ap length c.encode-bytes.ensures)

pub returns : goal.returns
unfolding write_iad written iad_bytes pairs_of
returns c =
    let yes = sym c.is_writable.ensures ∙ c.if-not-is_writable.false in
    let large = le-ltb _ _ c.if-room-lt-LENGTH.false in
    let bytes = c.copy_from_slice.ensures.after ∙ c.encode-bytes.ensures in
    (simp (yes, large), simp (yes, large, bytes))
