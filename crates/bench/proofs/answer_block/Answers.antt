use mathlib.Core.Path.{sym, ap, ◌∙◌}
use mathlib.Core.Bool.{not}
use Prim.Native.Nat.{◌-◌}
use native.Mathlib.Omega.{arith}
use lib.ListN.{length, drop, length-drop}
use lib.Seq.{take_all}
use Rattle.bench.proofs.Turns.{enough, no_room, answered}
use Rattle.bench.proofs.answer_block.Goals as goal

pub returns-then-not-has_room : goal.returns-then-not-has_room
returns-then-not-has_room c =
    let a = c.args in
    let full = sym c.has_room.ensures ∙ c.if-not-has_room.true in
    no_room a.shape a.paper.now a.words.now a.rooms.now a.state a.block.now a.room.now a.text.now
    (rw c.size_in-size.ensures.0 at full)

pub slice_bounds-run_in-end-2 : goal.slice_bounds-run_in-end-2
slice_bounds-run_in-end-2 c =
    let a = c.args in
    let there = enough c.size_in-size.result a.room.now a.text.now c.has_room.ensures (ap not c.if-not-has_room.false) in
    there.1

pub slice_bounds-run_in-end-3 : goal.slice_bounds-run_in-end-3
slice_bounds-run_in-end-3 c =
    let a = c.args in
    let there = enough c.size_in-size.result a.room.now a.text.now c.has_room.ensures (ap not c.if-not-has_room.false) in
    sym there.0

pub run_in-requires : goal.run_in-requires
run_in-requires c =
    let a = c.args in
    let there = enough c.size_in-size.result a.room.now a.text.now c.has_room.ensures (ap not c.if-not-has_room.false) in
    omega (arith, there.0, there.2)

pub returns : goal.returns
returns c =
    let a = c.args in
    let block = a.block.now in
    let e = c.size_in-size.ensures.0 in
    let fits = sym c.has_room.ensures ∙ c.if-not-has_room.false in
    let there = enough c.size_in-size.result a.room.now a.text.now c.has_room.ensures (ap not c.if-not-has_room.false) in
    let from = c.head_in-from.result in
    let records = take_all (length block - from) (drop from block) (omega (arith, length-drop from block)) ∙ c.head_in-from.ensures.2 in
    answered a.shape a.paper.now a.words.now a.rooms.now a.state block a.room.now a.text.now
    (rw e at fits) e records there.0 c.run_in.ensures
