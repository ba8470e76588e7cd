use borrow.Author.Tests.{eq-eqb, ne_eqb}
use mathlib.Core.Path.{refl}
use native.Mathlib.Omega.{arith}
use Rattle.room_lines.specs.RoomLines.{place_line}
use Rattle.room_lines.proofs.put_place.Goals as goal

pub returns-then-number-eq0 : goal.returns-then-number-eq0
unfolding place_line
returns-then-number-eq0 c =
    rw (← c.profile_number-number.ensures)
    (simp (eq-eqb _ _ c.if-number-eq0.true) (record { is = refl; behind = omega arith; short = omega arith }))

pub returns : goal.returns
unfolding place_line
returns c =
    let put = c in
    let four = put in
    let other = four in
    rw (← other.profile_number-number.ensures, ← four.stored.ensures)
    (simp (ne_eqb _ _ other.if-number-eq0.false) put.put_room_line.ensures)
