-- Room, or none.
use mathlib.Core.Path.{sym, ◌∙◌}
use native.Mathlib.Omega.{arith}
use Rattle.numerals.proofs.Numerals.{size, stay, behind, placed}
use Rattle.numerals.proofs.put_number.Goals as goal

pub returns-then-room-at : goal.returns-then-room-at
returns-then-room-at c = let a = c.args in stay a.room.now a.at a.n (omega arith)

pub returns-then-room-at-lt-LONGEST : goal.returns-then-room-at-lt-LONGEST
returns-then-room-at-lt-LONGEST c = let start = c in let a = start.args in stay a.room.now a.at a.n (omega arith)

pub put_digits-requires : goal.put_digits-requires
put_digits-requires c =
    let start = c in
    omega (arith, size start.args.n)

pub returns : goal.returns
returns c =
    let put = c in
    let tested = put in
    let start = tested in
    let a = start.args in
    let stored = put.put_digits.ensures in (
      stored.behind ∙ sym (behind a.room.now a.at a.n (omega arith)),
      stored.is ∙ sym (placed a.room.now a.at a.n (omega arith)),
    )
