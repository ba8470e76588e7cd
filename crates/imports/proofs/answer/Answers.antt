-- No room, no numbers, or all lines.
use mathlib.Core.Path.{◌∙◌}
use native.Mathlib.Omega.{arith}
use Rattle.imports.proofs.Told.{no_room, no_number, whole}
use Rattle.imports.proofs.answer.Goals as goal

pub returns-then-room-records : goal.returns-then-room-records
returns-then-room-records c =
    let a = c.args in
    no_room a.number a.input.now a.room.now (omega (arith, c.records_in-records.ensures, c.if-room-records.true))

pub returns-in_err-next : goal.returns-in_err-next
returns-in_err-next c =
    let a = c.args in
    let is = c.records_in-records.ensures in
    let none = no_number a.number a.input.now a.room.now (omega (arith, is, c.if-room-records.false)) (omega (arith, is, c.in_err-next.ensures)) in
    (c.from_residual.ensures ∙ none.0, none.1)

pub returns : goal.returns
returns c =
    let a = c.args in
    let is = c.records_in-records.ensures in
    let sum = c.in_ok-next.ensures in
    let all = whole a.number a.input.now a.room.now (omega (arith, is, c.if-room-records.false)) (omega (arith, is, sum)) is c.put_records-end.ensures in
    (rw sum.1 all.0, all.1)
