-- Room, or none.
use native.Mathlib.Omega.{arith}
use Rattle.sheet_lines.proofs.Padded.{place, stay}
use Rattle.sheet_lines.proofs.put_sheet.Goals as goal

pub returns-then-room-at : goal.returns-then-room-at
returns-then-room-at c =
    let a = c.args in
    stay a.room.now a.at a.form a.sheet.now (omega arith)

pub returns-then-room-at-lt-LONGEST : goal.returns-then-room-at-lt-LONGEST
returns-then-room-at-lt-LONGEST c =
    let start = c in
    let a = start.args in
    stay a.room.now a.at a.form a.sheet.now (omega arith)

pub returns : goal.returns
returns c =
    let put = c in
    let to-put = put in
    let a = to-put.args in
    place a.room.now a.at a.form a.sheet.now (omega arith) put.store.ensures
