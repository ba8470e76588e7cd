use native.Mathlib.Omega.{arith}
use borrow.Author.Rules.{rules}
use mathlib.Core.Path.{◌≡◌, sym, ap, ◌∙◌}
use mathlib.Core.List.{List}
use Prim.Native.Nat.{ℕ, ◌≤◌}
use lib.ListN.{length, drop}
use Rattle.shape.specs.declared.Shape.{Shape}
use Rattle.shape_seat.specs.Shapes.{shape_in}
use Rattle.seating.specs.States.{state_in}
use Rattle.runs.specs.declared.RunEnd.{RunEnd}
use Rattle.runs.specs.Runs as runs
use Rattle.card_cells.specs.Seat.{size, stored_in, card_in}
use Rattle.seat.specs.Calls.{ran_number, run_card, run_number, run_cells, run_room, card_behind}
use Rattle.card_cells.proofs.Laws.{same_card, if_long, if_short}
use Rattle.seat.proofs.Laws.{same-run, same_room, same-ruling, shape_in_cells, from_on, stays, changes}
use Rattle.seat.proofs.comblattice_run.Goals as goal

pub returns-then-seat-lt-SIZE : goal.returns-then-seat-lt-SIZE
unfolding run_number run_cells run_room
returns-then-seat-lt-SIZE c =
    let tested = c in
    let known = tested in
    let a = known.args in
    let cells = a.seat.now in
    let number = c.number.ensures ∙ if_short cells tested.if-seat-lt-SIZE.true 7 _ in (
      number,
      stays _ cells number (λ z. omega (arith, z, c.number.ensures)),
      if_short cells tested.if-seat-lt-SIZE.true _ _,
      λ z. absurd (omega (arith, z, c.number.ensures)),
    )

pub returns-then-ruling-ne0 : goal.returns-then-ruling-ne0
unfolding run_number run_cells run_room
returns-then-ruling-ne0 c =
    let told = c in
    let ran = told in
    let lent = ran in
    let state = lent in
    let shape = state in
    let rooms = shape in
    let words = rooms in
    let tested = words in
    let known = tested in
    let a = known.args in
    let cells = a.seat.now in
    let h = tested.if-seat-lt-SIZE.false in
    let s = shape.shape_in-shape.ensures ∙ ap shape_in (from_on 214 cells) in
    let t = state.state_in-state.ensures ∙ ap state_in (from_on 231 cells) in
    let w = words.words_in-words.ensures ∙ sym (if_long cells h _ _) in
    let r = rooms.rooms_in-rooms.ensures ∙ sym (if_long cells h _ _) in
    let records = a.records.now in
    let room = a.room.now in
    let ruled = ap (λ (e : RunEnd). ran_number e.ran) ran.run-end.ensures.0 ∙ ap ran_number (same-ruling a.paper.now cells records w r s t (length room)) in
    let number = told.ran_number-ruling.ensures ∙ ruled ∙ if_long cells h 7 _ in (
      number,
      stays _ cells number c.if-ruling-ne0.true,
      ran.run-end.ensures.3 ∙ same_room a.paper.now cells records w r s t room ∙ if_long cells h _ _,
      λ z. absurd (c.if-ruling-ne0.true z),
    )

pub returns : goal.returns
unfolding run_number run_cells run_room card_behind
returns c =
    let seated = c in
    let lent2 = seated in
    let taken = lent2 in
    let told = taken in
    let ran = told in
    let lent = ran in
    let state = lent in
    let shape = state in
    let rooms = shape in
    let words = rooms in
    let tested = words in
    let known = tested in
    let a = known.args in
    let cells = a.seat.now in
    let paper = a.paper.now in
    let h = tested.if-seat-lt-SIZE.false in
    let s = shape.shape_in-shape.ensures ∙ ap shape_in (from_on 214 cells) in
    let t = state.state_in-state.ensures ∙ ap state_in (from_on 231 cells) in
    let w = words.words_in-words.ensures ∙ sym (if_long cells h _ _) in
    let r = rooms.rooms_in-rooms.ensures ∙ sym (if_long cells h _ _) in
    let records = a.records.now in
    let room = a.room.now in
    let n = length room in
    let is = ran.run-end.ensures in
    let same = same-run paper cells records w r s t n in
    let ruled = ap (λ (e : RunEnd). ran_number e.ran) is.0 ∙ ap ran_number (same-ruling paper cells records w r s t n) in
    let number = sym taken.if-ruling-ne0.false ∙ told.ran_number-ruling.ensures ∙ ruled ∙ if_long cells h 7 _ in
    let card =
    same_card (is.1 ∙ ap (λ (k : runs.Card). k.words) same) (is.2 ∙ ap (λ (k : runs.Card). k.rooms) same) (s ∙ shape_in_cells cells)
    (ap (λ (e : RunEnd). e.state) is.0 ∙ ap (λ (k : runs.Card). k.state) same) in (
      number,
      seated.put_card.ensures.0 ∙ sym (if_long cells h cells _) ∙ ap (stored_in cells) card ∙ changes _ cells number,
      is.3 ∙ same_room paper cells records w r s t room ∙ if_long cells h _ _,
      λ z. seated.put_card.ensures.1 h ∙ card,
    )
