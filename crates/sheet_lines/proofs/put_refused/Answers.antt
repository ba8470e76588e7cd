use native.Mathlib.Omega.{arith}
use Rattle.sheet_lines.proofs.Padded.{place-refused, stay_refused}
use Rattle.sheet_lines.proofs.put_refused.Goals as goal

pub returns-then-room-at : goal.returns-then-room-at
returns-then-room-at c =
    let a = c.args in
    stay_refused a.room.now a.at a.form a.refusal a.paper (omega arith)

pub returns-then-room-at-lt-LONGEST_REFUSED : goal.returns-then-room-at-lt-LONGEST_REFUSED
returns-then-room-at-lt-LONGEST_REFUSED c =
    let start = c in
    let a = start.args in
    stay_refused a.room.now a.at a.form a.refusal a.paper (omega arith)

pub returns : goal.returns
returns c =
    let put = c in
    let to-put = put in
    let a = to-put.args in
    place-refused a.room.now a.at a.form a.refusal a.paper (omega arith) put.store_refused.ensures
