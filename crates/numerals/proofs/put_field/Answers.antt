-- Room, or none; the digits, and the mark.
use borrow.Author.Rules.{rules}
use mathlib.Core.Path.{refl}
use native.Mathlib.Omega.{arith}
use Rattle.text.proofs.Stores.{next}
use Rattle.numerals.proofs.Numerals.{size, stay_field, place-field}
use Rattle.numerals.proofs.put_field.Goals as goal

pub returns-then-room-at : goal.returns-then-room-at
returns-then-room-at c = let a = c.args in stay_field a.room.now a.at a.n a.mark (omega arith)

pub returns-then-room-at-le-LONGEST : goal.returns-then-room-at-le-LONGEST
returns-then-room-at-le-LONGEST c =
    let start = c in
    let a = start.args in
    stay_field a.room.now a.at a.n a.mark (omega arith)

pub put_digits-end-requires : goal.put_digits-end-requires
put_digits-end-requires c =
    let start = c in
    omega (arith, size start.args.n)

pub bounds-room-end : goal.bounds-room-end
bounds-room-end c =
    let put = c in
    let start = put in
    let few = size start.args.n in
    search rules

pub overflow_add-result : goal.overflow_add-result
overflow_add-result c =
    let put = c in
    let start = put in
    let few = size start.args.n in
    search rules

pub returns : goal.returns
returns c =
    let put = c in
    let start = put in
    let a = start.args in
    place-field a.room.now a.at a.n a.mark (omega arith)
    (next {n = 1} put.put_digits-end.ensures (record { is = refl; behind = refl; short = omega arith }))

pub shape_of-room : goal.shape_of-room
shape_of-room c = search rules
