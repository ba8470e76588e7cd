-- Where there is room the byte is put.
use mathlib.Core.Path.{refl, sym}
use native.Mathlib.Omega.{arith}
use lib.Seq.{set_out}
use Rattle.words.proofs.put_byte.Goals as goal

pub returns-then-at-room : goal.returns-then-at-room
returns-then-at-room c = let room = c.if-at-room.true in record { is = refl; behind = omega arith }

pub returns : goal.returns
returns c =
    let a = c.args in
    let past = c.if-at-room.false in
    record { is = sym (set_out a.room.now a.at a.byte past); behind = omega arith }
