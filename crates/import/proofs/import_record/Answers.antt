-- The answers in their order, and what the room holds after each.
use Rattle.std.proofs.Common.{arith}
use Rattle.std.proofs.lemmas.Grind.{common_steps}
use borrow.Author.Tests.{ne_eqb}
use Rattle.import.specs.Import.{bytes_of, new_bytes, import_record, imported}
use Rattle.import.proofs.import_record.Goals as goal

pub returns-then-old-ne-OLD_LENGTH : goal.returns-then-old-ne-OLD_LENGTH
unfolding import_record imported
returns-then-old-ne-OLD_LENGTH c = let other = ne_eqb _ _ c.if-old-ne-OLD_LENGTH.true in (simp other, simp other)

pub returns-in_err-new : goal.returns-in_err-new
unfolding import_record imported
returns-in_err-new c = grind (arith, common_steps)

pub returns-then-room-lt-NEW_LENGTH : goal.returns-then-room-lt-NEW_LENGTH
unfolding import_record imported
returns-then-room-lt-NEW_LENGTH c = grind (arith, common_steps)

pub returns : goal.returns
unfolding import_record imported new_bytes bytes_of
returns c = grind (arith, common_steps)
