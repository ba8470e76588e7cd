use borrow.Author.Rules.{rules}
use mathlib.Core.Path.{refl}
use native.Mathlib.Omega.{arith}
use Rattle.room_lines.proofs.Placed.{stored}
use Rattle.record_lines.proofs.put_shown.Goals as goal

pub returns-in-Lines : goal.returns-in-Lines
returns-in-Lines c = simp c.in-Lines.is (record { is = refl; behind = omega arith; short = omega arith })

pub returns-in-Rooms : goal.returns-in-Rooms
returns-in-Rooms c =
    let put = c in
    let told = put in
    let start = told in
    simp told.in-Rooms.is (stored start.requires put.put_rooms.ensures)
